-- trees of lights as values: nodes, their numbers, their members and their clumps
use Rattle.std.specs.Prelude.{◌≡◌, ℕ, zero, suc, ◌+◌, ◌-◌, ◌*◌, nat_lt, if◌then◌else◌, List, [], ◌∷◌, ◌++◌, Option, None, Some, ◌⊎◌, refl}
use Rattle.std.proofs.lemmas.List.{append_assoc, append-nil}
use Rattle.std.proofs.Common.{ap, sym, ◌∙◌, inl, inr}
use Rattle.std.specs.Coded.{Coded, code_by, coded×, coded⊎, coded_ℕ, coded_list}

-- a leaf has its light's number and the light; an inner node has the number of its representative, the representative
-- and two children
pub data Node (L : Type 0) : Type 0 where
  leaf : ℕ → L → Node L
  fork : ℕ → L → Node L → Node L → Node L

-- what a tree keeps: the lights, and the root, unless there are none
pub record Kept (L : Type 0) : Type 0 where
  pub lights : List L
  pub root : Option (Node L)

module _ {L : Type 0} where
  abbrev pub leaf_count : Node L → ℕ
  leaf_count (leaf n l) = 1
  leaf_count (fork n l a b) = leaf_count a + leaf_count b

  abbrev pub node_count : Node L → ℕ
  node_count (leaf n l) = 1
  node_count (fork n l a b) = 1 + (node_count a + node_count b)

  -- the number and the light of the representative
  abbrev pub leader_number : Node L → ℕ
  leader_number (leaf n l) = n
  leader_number (fork n l a b) = n

  abbrev pub leader : Node L → L
  leader (leaf n l) = l
  leader (fork n l a b) = l

  -- the lights of the leaves, and their numbers
  abbrev pub members : Node L → List L
  members (leaf n l) = l ∷ []
  members (fork n l a b) = members a ++ members b

  abbrev pub numbers : Node L → List ℕ
  numbers (leaf n l) = n ∷ []
  numbers (fork n l a b) = numbers a ++ numbers b

  -- the node of a number: the root has number 0, its left child 1, and its right child twice the number of leaves of
  -- the left
  abbrev pub node_at : Node L → ℕ → Option (Node L)
  node_at (leaf n l) zero = Some (leaf n l)
  node_at (leaf n l) (suc p) = None
  node_at (fork n l a b) zero = Some (fork n l a b)
  node_at (fork n l a b) (suc p) = if nat_lt p (node_count a) then node_at a p else node_at b (p - node_count a)

  -- the same of a tree that may be empty
  abbrev pub node_of : Option (Node L) → ℕ → Option (Node L)
  node_of None p = None
  node_of (Some t) p = node_at t p

  abbrev pub count_of : Option (Node L) → ℕ
  count_of None = 0
  count_of (Some t) = node_count t

  -- the numbers of the children of the node p
  abbrev pub kids_of : ℕ → Node L → Option (ℕ × ℕ)
  kids_of p (leaf n l) = None
  kids_of p (fork n l a b) = Some (p + 1, p + 2 * leaf_count a)

  -- the clump of a node, by one and join
  abbrev pub clump_of : {C : Type 0} → (L → C) → (C → C → C) → Node L → C
  clump_of one join (leaf n l) = one l
  clump_of one join (fork n l a b) = join (clump_of one join a) (clump_of one join b)

  -- two trees under a node
  abbrev pub joined : ℕ → L → List (Node L) → List (Node L)
  joined n l [] = []
  joined n l (a ∷ []) = a ∷ []
  joined n l (a ∷ (b ∷ stack)) = fork n l a b ∷ stack

  abbrev pub first : List (Node L) → Option (Node L)
  first [] = None
  first (t ∷ _) = Some t

  -- the nodes in order of their numbers, from which the tree can be told
  abbrev pub tokens : Node L → List ((ℕ × L) ⊎ (ℕ × L))
  tokens (leaf n l) = inl (n, l) ∷ []
  tokens (fork n l a b) = inr (n, l) ∷ (tokens a ++ tokens b)

  abbrev pub parse : List ((ℕ × L) ⊎ (ℕ × L)) → List (Node L)
  parse [] = []
  parse (inl p ∷ ts) = leaf p.0 p.1 ∷ parse ts
  parse (inr p ∷ ts) = joined p.0 p.1 (parse ts)

  pub parse-tokens : (t : Node L) (ts : List ((ℕ × L) ⊎ (ℕ × L))) → parse (tokens t ++ ts) ≡ t ∷ parse ts
  parse-tokens (leaf n l) ts = refl
  parse-tokens (fork n l a b) ts =
      ap (λ us. joined n l (parse us)) (append_assoc (tokens a) (tokens b) ts)
      ∙ ap (joined n l) (parse-tokens a (tokens b ++ ts) ∙ ap (λ us. a ∷ us) (parse-tokens b ts))

  abbrev pub root_tokens : Option (Node L) → List ((ℕ × L) ⊎ (ℕ × L))
  root_tokens None = []
  root_tokens (Some t) = tokens t

  pub first_root : (r : Option (Node L)) → first (parse (root_tokens r)) ≡ r
  first_root None = refl
  first_root (Some t) = ap (λ us. first (parse us)) (sym (append-nil (tokens t))) ∙ ap first (parse-tokens t [])

  abbrev pub kept_tokens : Kept L → List L × List ((ℕ × L) ⊎ (ℕ × L))
  kept_tokens v = (v.lights, root_tokens v.root)

  abbrev pub kept_of : List L × List ((ℕ × L) ⊎ (ℕ × L)) → Kept L
  kept_of p = record { lights = p.0; root = first (parse p.1) }

  pub kept-tokens : (v : Kept L) → kept_of (kept_tokens v) ≡ v
  kept-tokens v =
      ap (λ (r : Option (Node L)). let k : Kept L = record { lights = v.lights; root = r } in k) (first_root v.root)

  -- how the logic stores what a tree keeps
  abbrev pub coded_kept : Coded L → Coded (Kept L)
  coded_kept c =
      code_by (List L × List ((ℕ × L) ⊎ (ℕ × L)))
      (coded× (coded_list c)
      (coded_list (coded⊎ (coded× coded_ℕ c) (coded× coded_ℕ c)))) kept_tokens kept_of kept-tokens
