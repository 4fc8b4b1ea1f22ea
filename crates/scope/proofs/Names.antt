-- The names in a list, as a part of the words: their texts are the names that stand there.
-- Assumes nothing.
use Prim.Native.Nat.{ℕ, zero, suc, ◌+◌, ◌-◌, ◌≤◌, ◌<◌}
use native.Mathlib.Omega.{arith}
use mathlib.Core.Path.{◌≡◌, refl, ◌∙◌}
use mathlib.Core.List.{List, [], ◌∷◌, map}
use lib.ListN.{length, get_or, take, drop, length-take, length-drop}
use Rattle.std.proofs.lemmas.List.{drop_more, get_or-take, get_or-drop}
use Rattle.lustre.specs.Name.{Name}
use Rattle.standing.specs.Standing.{Source, source, EachAt, MentionAt, one_record}
use Rattle.scope.specs.Names.{NamesHere}

-- the numbers of the first k names in the list at a place, and of all
abbrev pub first_names : List ℕ → ℕ → ℕ → List ℕ
first_names ws list k = take (list + 1 + k - (list + 1)) (drop (list + 1) ws)

abbrev pub names_in : List ℕ → ℕ → List ℕ
names_in ws list = first_names ws list (get_or ws list 0)

-- names one after another
record Standing (S : Source) (xs : List Name) (at : ℕ) : Type 0 where
  inside : at + length xs ≤ length S.ws
  are : map S.text (take (length xs) (drop at S.ws)) ≡ xs
  small : (i : ℕ) → i < length xs → get_or S.ws (at + i) 0 < 512

standing : (S : Source) (xs : List Name) (at : ℕ) → at ≤ length S.ws → EachAt (MentionAt S) one_record xs at → Standing S xs at
unfolding EachAt
standing S [] at h s = record { inside = omega arith; are = refl; small = λ i b. absurd (omega arith) }
standing S (x ∷ xs) at h s =
    let m = s.0 in
    let r = standing S xs (at + 1) (omega (arith, m.head.in_words)) s.1 in
    record {
      inside = omega (arith, r.inside);
      are = rw (drop_more S.ws at 0 m.head.in_words, r.are, m.name.text);
      small = go m.name.small r.small;
    }
  where
    go : get_or S.ws at 0 < 512 → ((i : ℕ) → i < length xs → get_or S.ws (at + 1 + i) 0 < 512) → (i : ℕ) → i < suc (length xs) → get_or S.ws (at + i) 0 < 512
    go first rest zero b = let e : at + 0 ≡ at = omega arith in rw e first
    go first rest (suc i) b = let e : at + suc i ≡ at + 1 + i = omega arith in rw e (rest i (omega arith))

module _ {ws : List ℕ} {list : ℕ} (g : NamesHere ws list) where
  -- the names of the list, behind its record
  names_stand : Standing (source g.ks ws g.text) g.xs (list + 1)
  names_stand = standing (source g.ks ws g.text) g.xs (list + 1) (omega (arith, g.listed.head.in_words)) g.listed.items

  -- the first k lie within the words
  pub first_inside : {k : ℕ} → k ≤ get_or ws list 0 → list + 1 + k ≤ length ws
  first_inside h = omega (arith, names_stand.inside, g.listed.many)

  -- and are so many
  pub first_many : {k : ℕ} → k ≤ get_or ws list 0 → length (first_names ws list k) ≡ k
  first_many {k} h = length-take (list + 1 + k - (list + 1)) (drop (list + 1) ws) ∙ omega (arith, first_inside h, length-drop {A = ℕ} (list + 1) ws)

  -- the name with index i among them
  pub first_at : {k : ℕ} (i : ℕ) → i < k → get_or (first_names ws list k) i 0 ≡ get_or ws (list + 1 + i) 0
  first_at {k} i h = get_or-take (list + 1 + k - (list + 1)) (drop (list + 1) ws) i 0 (omega arith) ∙ get_or-drop (list + 1) ws i 0

  -- all of them lie within the words
  pub names_inside : list + 1 + get_or ws list 0 ≤ length ws
  names_inside = first_inside (omega arith)

  -- and are as many as the list's word says
  pub names_many : length (names_in ws list) ≡ get_or ws list 0
  names_many = first_many (omega arith)

  -- their texts are the names
  pub names_are : map g.text (names_in ws list) ≡ g.xs
  names_are = let e : list + 1 + get_or ws list 0 - (list + 1) ≡ length g.xs = omega (arith, g.listed.many) in rw (e, names_stand.are)

  -- the numbers of the first k are below 512
  pub first_small : {k : ℕ} → k ≤ get_or ws list 0 → (i : ℕ) → i < k → get_or (first_names ws list k) i 0 < 512
  first_small h i b = rw (first_at i b) (names_stand.small i (omega (arith, g.listed.many)))

  -- and those of all
  pub names_small : (i : ℕ) → i < length (names_in ws list) → get_or (names_in ws list) i 0 < 512
  names_small i h = first_small {k = get_or ws list 0} (omega arith) i (omega (arith, names_many))
