-- The loop goes through the sequence of cuts up to the chosen one.
use Rattle.std.proofs.Common.{◌≡◌, ℕ, Bool, suc, ◌-◌, ◌<◌, ◌≤◌, List, length, map, true, false, refl, ap, sym, subst, ◌∙◌, arith, nat_lt}
use Rattle.std.proofs.lemmas.Bool.Decides.{nat_tests}
use Rattle.std.proofs.lemmas.List.Sorted.{length_permutation}
use Rattle.lc_num.specs.declared.channels.Rgb.{Rgb}
use Rattle.lc_rated.specs.declared.light.NodeLight.{NodeLight}
use Rattle.lc_rated.specs.declared.answer.Answer.{Answer}
use Rattle.lc_rated.specs.declared.kind.LightKind.{LightKind}
use Rattle.lc_rated.specs.LitTrees.{Trees}
use Rattle.lc_rated.specs.Cuts.{Placed, roots_of, cut_at, stops, refinements, answer, answer_of, AreLimited, is_stop}
use Rattle.lc_rated.specs.Nodes.{NodesParts, entry_of, IsCutOf, IsSmall}
use Rattle.lc_rated.proofs.CutSequence.{Going, size_within, size_differs, least_is}
use Rattle.lc_rated.proofs.CutLimits.{totals_small}
use Rattle.lc_rated.proofs.NodeSteps.{length-map}

answer_same : (a b : Answer) → a.size ≡ b.size → a.evals ≡ b.evals → a.est ≡ b.est → a.bound ≡ b.bound → a ≡ b
answer_same a b size evals est bound =
    let f : ℕ → ℕ → Rgb → Rgb → Answer = λ s e x y. record { size = s; evals = e; est = x; bound = y } in
    ap (λ s. f s a.evals a.est a.bound) size ∙ ap (λ e. f b.size e a.est a.bound) evals ∙ ap (λ x. f b.size b.evals x a.bound) est ∙ ap (f b.size b.evals b.est) bound

-- the next cut is reached
pub next_going : (size permille : ℕ) (roots : List Placed) (k n : ℕ) → n ≡ suc k → Going size permille roots k → stops size permille (cut_at roots k) ≡ false → Going size permille roots n
next_going size permille roots k n e go fails j lt =
    elim (nat_lt j k) as (λ v. nat_lt j k ≡ v → stops size permille (cut_at roots j) ≡ false) [
      | true ↦ (λ q. go j (grind (arith, nat_tests)))
      | false ↦ (λ q. let le : k ≤ j = grind (arith, nat_tests) in let same : k ≡ j = omega arith in subst (λ i. stops size permille (cut_at roots i) ≡ false) same fails)
    ] refl

module _ {K : Type 0} (keeps : LightKind → ℕ → K → Type 0) (trees : Trees) (nodes : NodesParts K) (h : IsCutOf keeps (roots_of trees) nodes) where
  abbrev count : ℕ
  count = length nodes.entries - length (roots_of trees)

  abbrev now : List Placed
  now = cut_at (roots_of trees) count

  pub now_small : AreLimited trees → IsSmall nodes.sums
  now_small limited = rw h.holds.sums (totals_small trees count limited)

  now_length : length nodes.entries ≡ length now
  now_length = length_permutation (map entry_of now) nodes.entries h.holds.entries ∙ length-map entry_of now

  -- the answer of the code's test is that of the cut
  pub now_test : (answer : Bool) (size permille : ℕ) → answer ≡ is_stop size permille (length nodes.entries) nodes.sums → stops size permille now ≡ answer
  now_test answer size permille is =
      sym (is ∙ ap (λ n. is_stop size permille n nodes.sums) now_length ∙ ap (is_stop size permille (length now)) h.holds.sums)

  module _ (size permille : ℕ) (few : length (roots_of trees) ≤ size) (go : Going size permille (roots_of trees) count) where
    pub now_within : length nodes.entries ≤ size
    now_within = omega (arith, size_within size permille (roots_of trees) count few go, now_length)

    pub now_below : stops size permille now ≡ false → length nodes.entries < size
    now_below fails =
        let other : length now ≡ size → ⊥ = size_differs size permille now fails in
        omega (arith, now_within, other, now_length)

    -- the answer of the chosen cut
    pub now_answer : stops size permille now ≡ true → (a : Answer) → a.size ≡ length nodes.entries → a.evals ≡ length nodes.entries → a.est ≡ nodes.sums.est → a.bound ≡ nodes.sums.bound → a ≡ answer size permille trees
    now_answer stop a es ev ee eb =
        let within : length nodes.entries ≤ size = now_within in
        let chosen : refinements size permille (roots_of trees) ≡ count = least_is size (λ j. stops size permille (cut_at (roots_of trees) j)) count (omega arith) stop go in
        let same : a ≡ answer_of now =
        answer_same a (answer_of now) (es ∙ now_length) (ev ∙ now_length) (ee ∙ ap (λ (t : NodeLight). t.est) h.holds.sums) (eb ∙ ap (λ (t : NodeLight). t.bound) h.holds.sums) in
        same ∙ ap (λ i. answer_of (cut_at (roots_of trees) i)) (sym chosen)
