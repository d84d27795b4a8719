-- What a line promises, by the test of its places, and the verdict by it.
use Rattle.std.proofs.Common.{◌≡◌, ◌⊎◌, inl, inr, ℕ, ◌+◌, ◌*◌, ◌%◌, ◌≤◌, Bool, true, false, cond, Option, Some, None, List, [], ◌∷◌, map, length, refl, sym, ◌∙◌, ap, subst, arith, slice_get}
use Rattle.std.specs.Prelude.{not, ◌&&◌, ◌||◌, nat_lt, ◌==◌, filter, find, option_map}
use Rattle.std.proofs.lemmas.Nat.{mod_below}
use Rattle.std.proofs.lemmas.Option.{none-some, same_Some}
use Rattle.std.proofs.lemmas.Bool.{ltb-false, le-ltb, eqb-true, eq-eqb, not-false, not_from_true, or_from, or_parts, and_left, and_right, and_cases}
use Rattle.lc_num.specs.declared.channels.Rgb.{Rgb}
use Rattle.lc_num.specs.declared.rules.Rule.{Rule}
use Rattle.lc_rated.specs.Cuts.{IsFraction, apart}
use Rattle.lc_rated.specs.declared.answer.Answer.{Answer}
use Rattle.lc_view.specs.Samples.{sample_rays}
use Rattle.lc_view.specs.declared.ray.Ray.{Ray}
use Rattle.lc_job.specs.declared.job.Job.{Job}
use Rattle.lc_sample.specs.Scenes.{IsScene, SceneParts}
use Rattle.lc_sample.specs.Sampled.{light_of, sample_of}
use Rattle.lc_sample.proofs.SampleLemmas.{sample_fraction, sample_near}
use Rattle.lc_audit.specs.Verdicts.{HoldsBy, LineFails, LineHolds, Place, fails, looked_at, miss_of, places_of, samples_of, verdict, verdict_by}
use Rattle.lc_audit.specs.declared.channel.Channel.TheVariants as channel
use Rattle.lc_audit.specs.declared.sample.Sample.{Sample}
use Rattle.lc_audit.specs.declared.verdict.Miss.{Miss}
use Rattle.lc_audit.specs.declared.verdict.Verdict.TheVariants.{Yes, No}
use Rattle.lc_audit.proofs.Finding.{at_some, found, none_at, none_of}
use Rattle.lc_audit.proofs.SampleLemmas.{lights-get, lights-ray, lights_of, numbered, numbered-get, numbered-parts}

-- ---- one channel

abbrev Holds : ℕ → ℕ → ℕ → ℕ → ℕ → ℕ → Type 0
Holds cut permille size plain est bound = (apart plain est ≤ bound) × ((size ≡ cut) ⊎ (1000 * bound ≤ permille * est))

abbrev test : ℕ → ℕ → ℕ → ℕ → ℕ → ℕ → Bool
test cut permille size plain est bound =
    nat_lt bound (apart plain est) || (not (size == cut) && nat_lt (permille * est) (1000 * bound))

module _ (cut permille size plain est bound : ℕ) where
  passes : Holds cut permille size plain est bound → test cut permille size plain est bound ≡ false
  passes h = or_from (nat_lt bound (apart plain est)) (not (size == cut) && nat_lt (permille * est) (1000 * bound)) (le-ltb bound (apart plain est) h.0) (at h.1) where
    at : ((size ≡ cut) ⊎ (1000 * bound ≤ permille * est))
        → (not (size == cut) && nat_lt (permille * est) (1000 * bound)) ≡ false
    at (inl e) = and_left (not (size == cut)) (nat_lt (permille * est) (1000 * bound)) (not_from_true (size == cut) (eq-eqb size cut e))
    at (inr k) = and_right (not (size == cut)) (nat_lt (permille * est) (1000 * bound)) (le-ltb (permille * est) (1000 * bound) k)

  passed : test cut permille size plain est bound ≡ false → Holds cut permille size plain est bound
  passed h = (ltb-false bound (apart plain est) t.0, at (and_cases (not (size == cut)) (nat_lt (permille * est) (1000 * bound)) t.1)) where
    t : (nat_lt bound (apart plain est) ≡ false) × ((not (size == cut) && nat_lt (permille * est) (1000 * bound)) ≡ false)
    t = or_parts (nat_lt bound (apart plain est)) (not (size == cut) && nat_lt (permille * est) (1000 * bound)) h

    at : ((not (size == cut) ≡ false) ⊎ (nat_lt (permille * est) (1000 * bound) ≡ false))
        → (size ≡ cut) ⊎ (1000 * bound ≤ permille * est)
    at (inl e) = inl (eqb-true size cut (not-false (size == cut) e))
    at (inr k) = inr (ltb-false (permille * est) (1000 * bound) k)

-- ---- three channels

three_pass : (x y z : Bool) (a b c : Place) → x ≡ false → y ≡ false → z ≡ false
    → cond x (Some a) (cond y (Some b) (cond z (Some c) None)) ≡ None
three_pass x y z a b c e f g = rw (e, f, g) refl

three_passed : (x y z : Bool) (a b c : Place) → cond x (Some a) (cond y (Some b) (cond z (Some c) None)) ≡ None
    → (x ≡ false) × (y ≡ false) × (z ≡ false)
three_passed true y z a b c h = cc
three_passed false true z a b c h = cc
three_passed false false true a b c h = cc
three_passed false false false a b c h = (refl, refl, refl)

module _ (job : Job) (s : Sample) where
  abbrev passing : (Rgb → ℕ) → Type 0
  passing c = Holds job.cut job.permille s.line.size (c s.light) (c s.line.est) (c s.line.bound)

  each : HoldsBy job s.light s.line
      → passing (λ (l : Rgb). l.r) × passing (λ (l : Rgb). l.g) × passing (λ (l : Rgb). l.b)
  each h = at h.fraction where
    at : ((s.line.size ≡ job.cut) ⊎ IsFraction job.permille s.line)
        → passing (λ (l : Rgb). l.r) × passing (λ (l : Rgb). l.g) × passing (λ (l : Rgb). l.b)
    at (inl e) = ((h.near.red, inl e), (h.near.green, inl e), (h.near.blue, inl e))
    at (inr f) = ((h.near.red, inr f.red), (h.near.green, inr f.green), (h.near.blue, inr f.blue))

  together : passing (λ (l : Rgb). l.r) → passing (λ (l : Rgb). l.g) → passing (λ (l : Rgb). l.b)
      → HoldsBy job s.light s.line
  together r g b = record { near = record { red = r.0; green = g.0; blue = b.0 }; fraction = at r.1 g.1 b.1 } where
    at : ((s.line.size ≡ job.cut) ⊎ (1000 * s.line.bound.r ≤ job.permille * s.line.est.r))
        → ((s.line.size ≡ job.cut) ⊎ (1000 * s.line.bound.g ≤ job.permille * s.line.est.g))
        → ((s.line.size ≡ job.cut) ⊎ (1000 * s.line.bound.b ≤ job.permille * s.line.est.b))
        → (s.line.size ≡ job.cut) ⊎ IsFraction job.permille s.line
    at (inl e) y z = inl e
    at (inr x) (inl e) z = inl e
    at (inr x) (inr y) (inl e) = inl e
    at (inr x) (inr y) (inr z) = inr (record { red = x; green = y; blue = z })

  pub none_where_holds : HoldsBy job s.light s.line → find (fails job.cut job.permille) (places_of s) ≡ None
  none_where_holds h =
      let t = each h in
      three_pass _ _ _ _ _ _ (passes job.cut job.permille s.line.size s.light.r s.line.est.r s.line.bound.r t.0)
      (passes job.cut job.permille s.line.size s.light.g s.line.est.g s.line.bound.g t.1)
      (passes job.cut job.permille s.line.size s.light.b s.line.est.b s.line.bound.b t.2)

  pub holds_where_none : find (fails job.cut job.permille) (places_of s) ≡ None → HoldsBy job s.light s.line
  holds_where_none h =
      let t = three_passed (test job.cut job.permille s.line.size s.light.r s.line.est.r s.line.bound.r) (test job.cut job.permille s.line.size s.light.g s.line.est.g s.line.bound.g) (test job.cut job.permille s.line.size s.light.b s.line.est.b s.line.bound.b) _ _ _ h in
      together (passed job.cut job.permille s.line.size s.light.r s.line.est.r s.line.bound.r t.0)
      (passed job.cut job.permille s.line.size s.light.g s.line.est.g s.line.bound.g t.1)
      (passed job.cut job.permille s.line.size s.light.b s.line.est.b s.line.bound.b t.2)

-- ---- the verdict

abbrev pub first : Job → List Sample → Option Place
first job samples = found places_of (fails job.cut job.permille) samples

pub verdict_no : (scene : SceneParts) (job : Job) (lines : List Answer) (step : ℕ) (p : Place) (miss : Miss)
    → first job (looked_at scene job lines step) ≡ Some p → miss ≡ miss_of p → No miss ≡ verdict scene job lines step
unfolding verdict
verdict_no scene job lines step p miss e is =
    ap No is ∙ sym (ap (verdict_by (length (looked_at scene job lines step))) e)

pub verdict_yes : (scene : SceneParts) (job : Job) (lines : List Answer) (step checked : ℕ)
    → first job (looked_at scene job lines step) ≡ None → length (looked_at scene job lines step) ≡ checked
    → Yes checked ≡ verdict scene job lines step
unfolding verdict
verdict_yes scene job lines step checked e n =
    ap Yes (sym n) ∙ sym (ap (verdict_by (length (looked_at scene job lines step))) e)

none_by : (n checked : ℕ) (o : Option Place) → verdict_by n o ≡ Yes checked → o ≡ None
none_by n checked None h = refl
none_by n checked (Some p) h = cc

some_by : (n : ℕ) (miss : Miss) (o : Option Place) → verdict_by n o ≡ No miss
    → (p : Place) × (o ≡ Some p) × (miss_of p ≡ miss)
some_by n miss None h = cc
some_by n miss (Some p) h = (p, refl, grind arith)

three_some : (x y z : Bool) (a b c p : Place) → cond x (Some a) (cond y (Some b) (cond z (Some c) None)) ≡ Some p
    → (a ≡ p) ⊎ ((b ≡ p) ⊎ (c ≡ p))
three_some true y z a b c p h = inl (same_Some a p h)
three_some false true z a b c p h = inr (inl (same_Some b p h))
three_some false false true a b c p h = inr (inr (same_Some c p h))
three_some false false false a b c p h = cc

-- a place that is found among those of a sample is of that sample
place_sample : (job : Job) (s : Sample) (p : Place) → find (fails job.cut job.permille) (places_of s) ≡ Some p
    → s ≡ p.sample
place_sample job s p h = at (three_some _ _ _ _ _ _ p h) where
  at : ((record { sample = s; channel = channel.Red } ≡ p) ⊎ ((record { sample = s; channel = channel.Green } ≡ p) ⊎ (record { sample = s; channel = channel.Blue } ≡ p)))
      → s ≡ p.sample
  at (inl e) = ap (λ (q : Place). q.sample) e
  at (inr (inl e)) = ap (λ (q : Place). q.sample) e
  at (inr (inr e)) = ap (λ (q : Place). q.sample) e

-- the answer of the search for a place of a sample
pub told : (o : Option Place) (miss : Miss) → Some miss ≡ option_map miss_of o
    → (p : Place) × (o ≡ Some p) × (miss ≡ miss_of p)
told None miss e = cc
told (Some p) miss e = (p, refl, grind arith)

pub untold : (o : Option Place) → None ≡ option_map miss_of o → o ≡ None
untold None e = refl
untold (Some p) e = cc

-- ---- the laws

abbrev on : ℕ → Sample → Bool
on step s = s.number % step == 0

pub some_hold : (scene : SceneParts) (job : Job) (lines : List Answer) (step checked k : ℕ)
    → verdict scene job lines step ≡ Yes checked → k % step ≡ 0
    → LineHolds scene job lines k
unfolding verdict looked_at
some_hold scene job lines step checked k h m ray line e f =
    let z : 0 + k ≡ k = omega arith in
    let s : Sample = record { number = 0 + k; light = light_of scene ray; line = line } in
    holds_where_none job s
    (none_at places_of (fails job.cut job.permille) (on step) (samples_of (lights_of scene job) lines) k s (none_by _ checked _ h)
    (numbered-get 0 (lights_of scene job) lines k (light_of scene ray) line (lights-get scene (sample_rays job.camera) k ray e) f)
    (eq-eqb ((0 + k) % step) 0 (ap (λ n. n % step) z ∙ m)))

pub every_holds : (scene : SceneParts) (job : Job) (lines : List Answer) (checked k : ℕ)
    → verdict scene job lines 1 ≡ Yes checked → LineHolds scene job lines k
every_holds scene job lines checked k h =
    some_hold scene job lines 1 checked k h (omega (arith, mod_below k 1 (omega arith)))

pub named_fails : (scene : SceneParts) (job : Job) (lines : List Answer) (step : ℕ) (miss : Miss)
    → verdict scene job lines step ≡ No miss
    → LineFails scene job lines miss.sample
unfolding verdict looked_at
named_fails scene job lines step miss h =
    let a = some_by _ miss _ h in
    let b = at_some places_of (fails job.cut job.permille) (on step) (samples_of (lights_of scene job) lines) a.0 a.1 in
    let s : Sample = b.1 in
    let n = numbered-parts 0 (lights_of scene job) lines b.0 s b.2 in
    let l = lights-ray scene (sample_rays job.camera) b.0 s.light n.1 in
    let z : 0 + b.0 ≡ b.0 = omega arith in
    let k : miss.sample ≡ b.0 = sym (ap (λ (m : Miss). m.sample) a.2) ∙ sym (ap (λ (t : Sample). t.number) (place_sample job s a.0 b.3)) ∙ n.0 ∙ z in (
      l.0,
      s.line,
      ap (slice_get (sample_rays job.camera)) k ∙ l.1,
      ap (slice_get lines) k ∙ n.2,
      λ holds. none-some a.0 (sym (none_where_holds job s (subst (λ (c : Rgb). HoldsBy job c s.line) l.2 holds)) ∙ b.3),
    )

module _ (r : Rule) (scene : SceneParts) (job : Job) (valid : IsScene scene) (least : 3 ≤ job.cut) where
  abbrev answer : Ray → Answer
  answer ray = sample_of job.cut job.permille r scene ray

  own_holds : (ray : Ray) → HoldsBy job (light_of scene ray) (answer ray)
  own_holds ray =
      record { near = sample_near job.cut job.permille r scene ray valid; fraction = sample_fraction job.cut job.permille r scene ray least }

  own_none : (step n : ℕ) (rays : List Ray)
      → first job (filter (on step) (numbered n (map (light_of scene) rays) (map answer rays))) ≡ None
  own_none step n [] = refl
  own_none step n (ray ∷ rays) =
      none_of places_of (fails job.cut job.permille) (on step) (record { number = n; light = light_of scene ray; line = answer ray }) (numbered (n + 1) (map (light_of scene) rays) (map answer rays))
      (none_where_holds job (record { number = n; light = light_of scene ray; line = answer ray }) (own_holds ray)) (own_none step (n + 1) rays)

  looked_none : (lines : List Answer) (step : ℕ) → lines ≡ map answer (sample_rays job.camera)
      → first job (looked_at scene job lines step) ≡ None
  unfolding looked_at
  looked_none lines step e =
      ap (λ l. first job (looked_at scene job l step)) e ∙ own_none step 0 (sample_rays job.camera)

  pub own_yes : (lines : List Answer) (step : ℕ) → lines ≡ map answer (sample_rays job.camera)
      → verdict scene job lines step ≡ Yes (length (looked_at scene job lines step))
  own_yes lines step e =
      sym (verdict_yes scene job lines step (length (looked_at scene job lines step)) (looked_none lines step e) refl)
