-- A type in the records at a place: as many arrays as there are kinds 32, then a basic type or a name. Document 01, 'Records, in order
-- of writing': a length is below 2^32, a name's number below 512, and a type has at most 68 levels.
-- Assumes nothing: these are definitions.
use Rattle.std.specs.Prelude.{ℕ, suc, ◌+◌, ◌<◌, ◌≤◌, ◌≡◌, Bool, true, false, ◌&&◌, List, [], ◌∷◌, eqb, leb, ltb, length, drop, if◌then◌else◌}
use Rattle.lustre.specs.Types.{Ty, basic, Array, levels}
use Rattle.types.specs.Value.{Naming, bottom, asTy}
use Rattle.types.specs.declared.Typ.{Typ}

-- the number of arrays at the start of the kinds
unfoldable pub arraysIn : List ℕ → ℕ
arraysIn [] = 0
arraysIn (k ∷ ks) = if eqb k 32 then suc (arraysIn ks) else 0

-- a type stands at the start of kinds and words, with its words in range
unfoldable pub standsIn : List ℕ → List ℕ → Bool
standsIn [] ws = false
standsIn (k ∷ ks) [] = false
standsIn (k ∷ ks) (w ∷ ws) =
    if eqb k 32 then ltb w 4_294_967_296 && standsIn ks ws else
    if eqb k 33 then ltb w 512 else leb 20 k && leb k 31

-- the type at the start of kinds and words, basic 0 where none stands
unfoldable pub ty_of : Naming → List ℕ → List ℕ → Ty
ty_of ρ [] ws = basic 0
ty_of ρ (k ∷ ks) [] = basic 0
ty_of ρ (k ∷ ks) (w ∷ ws) = if eqb k 32 then Array w (ty_of ρ ks ws) else bottom ρ k w

-- a type of at most 68 levels stands at a place
pub record IsTypeAt (ks ws : List ℕ) (at : ℕ) : Type 0 where
  pub stands : standsIn (drop at ks) (drop at ws) ≡ true
  pub few : arraysIn (drop at ks) ≤ 67

-- that type
abbrev pub ty_at : Naming → List ℕ → List ℕ → ℕ → Ty
ty_at ρ ks ws at = ty_of ρ (drop at ks) (drop at ws)

-- what `last_of` answers: the record that ends the type, behind its arrays
pub record Last (ks ws : List ℕ) (at r : ℕ) : Type 0 where
  pub behind : r ≡ at + arraysIn (drop at ks)
  pub in_kinds : r < length ks
  pub in_words : r < length ws

-- what `read_type` answers: the type at a place, and the place behind it
pub record Read (ks ws : List ℕ) (at : ℕ) (t : Typ) (next : ℕ) : Type 0 where
  pub few : t.levels ≤ 67
  pub is : (ρ : Naming) → asTy ρ t ≡ ty_at ρ ks ws at
  pub after : (ρ : Naming) → next ≡ at + levels (ty_at ρ ks ws at)
