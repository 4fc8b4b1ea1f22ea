-- A line for a name that has been declared before.
-- Assumes nothing.
use Rattle.std.specs.Prelude.{if◌then◌else◌}
use Prim.Native.Nat.{ℕ}
use mathlib.Core.Path.{◌≡◌, sym, ◌∙◌}
use mathlib.Core.Bool.{Bool, true, false, not}
use mathlib.Core.List.{List, [], ◌∷◌, ◌++◌, map, map-append}
use mathlib.Core.Logic.{⊎_elim}
use mathlib.Core.Option.{none}
use Rattle.lustre.specs.Name.{Name, ◌is◌}
use Rattle.lustre.specs.Line.{Place, about}
use Rattle.lustre.specs.Answer.{place_number, or_none}
use Rattle.lustre.specs.Report.{line}
use Rattle.lines.specs.Lines.{Noted}
use Rattle.lines.specs.declared.Spot.{Spot}
use Rattle.lines.specs.declared.Lines.{Lines}
use Rattle.demands.proofs.Sets.{split, mem_eq, mem_ne, mem_snoc}
use Rattle.scope.specs.Writes.{Reports}
use Rattle.scope.proofs.Writes.{reports_noted}
use Rattle.tables.specs.Entered.{SameNames}

-- the spot of a declaration
pub record Spotted (q : Spot) (p i : ℕ) : Type 0 where
  pub place : q.place ≡ p
  pub number : q.number ≡ i
  pub equation : q.equation ≡ 18_446_744_073_709_551_615

-- the same with names for the parts
pub spotted : {q : Spot} {p i : ℕ} → (q.place ≡ p) × (q.number ≡ i) × (q.equation ≡ 18_446_744_073_709_551_615) × (q.function ≡ false) → Spotted q p i
spotted h = record { place = h.0; number = h.1; equation = h.2 }

module _ {num : Name → ℕ} {q : Spot} {i : ℕ} {o o' : Lines} where
  -- a line exactly if the name stands among those before
  pub repeated : (p : Place) (c : ℕ) (x : Name) (b : Bool) → Spotted q (place_number p) i → Noted num q (if b then about c x ∷ [] else []) o o' → Reports num (if b then line p i (about c x) ∷ [] else []) o o'
  unfolding line or_none
  repeated p c x true s d = reports_noted p none (about c x ∷ []) d s.place s.number s.equation
  repeated p c x false s d = reports_noted p none [] d s.place s.number s.equation

  -- one line
  pub one_line : (p : Place) (c : ℕ) (x : Name) → Spotted q (place_number p) i → Noted num q (about c x ∷ []) o o' → Reports num (line p i (about c x) ∷ []) o o'
  one_line p c x s d = repeated p c x true s d

  -- the same, by a test of an entry
  pub repeated_entry : (p : Place) (c : ℕ) (x : Name) (b t : Bool) → t ≡ not b → Spotted q (place_number p) i → Noted num q (if t then [] else about c x ∷ []) o o' → Reports num (if b then line p i (about c x) ∷ [] else []) o o'
  repeated_entry p c x true t e s d = repeated p c x true s (rw e at d)
  repeated_entry p c x false t e s d = repeated p c x false s (rw e at d)

-- the same names with one more
pub same_cons : (x : Name) (xs ys : List Name) → SameNames xs ys → SameNames (x ∷ xs) (x ∷ ys)
same_cons x xs ys h z =
    ⊎_elim
    (λ (e : (z is x) ≡ true). mem_eq ◌is◌ z x xs e ∙ sym (mem_eq ◌is◌ z x ys e))
    (λ (e : (z is x) ≡ false). mem_ne ◌is◌ z x xs e ∙ h z ∙ sym (mem_ne ◌is◌ z x ys e))
    (split (z is x))

-- a name put behind a list of pairs
pub same_snoc : {A : Type 0} (x : Name) (a : A) (xs : List Name) (l : List (Name × A)) → SameNames xs (map (λ e. e.0) l) → SameNames (x ∷ xs) (map (λ e. e.0) (l ++ ((x, a) ∷ [])))
same_snoc x a xs l h z =
    same_cons x xs (map (λ e. e.0) l) h z
    ∙ sym (rw (map-append (λ (e : Name × _). e.0) l ((x, a) ∷ [])) (mem_snoc ◌is◌ z x (map (λ e. e.0) l)))
