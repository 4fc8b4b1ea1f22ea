-- Steps of the walk `go`: what a record where a class is wanted at a level asks to follow it.
-- Assumes nothing.
use mathlib.Core.Path.{◌≡◌, refl, ap, ◌∙◌}
use mathlib.Core.List.{List, [], ◌∷◌, ◌++◌}
use Prim.Native.Nat.{ℕ, zero, suc, ◌+◌, ◌≤◌, ◌<◌}
use lib.ListN.{length, replicate, get_or, drop}
use Rattle.std.proofs.Common.{Option, Ok, Err}
use Rattle.lustre.specs.Records.{Rec, spell}
use Rattle.lustre.specs.Grammar.{Class, one, list, follow}
use Rattle.lustre.specs.Levels.{inner_of}
use Rattle.records.specs.Places.{Want, mark, shape_of, on_shape, wants, ends, go}
use Rattle.records.proofs.Spells.{rec_at, kind_at, spell_at, spell_past}

-- where nothing is wanted the walk ends
ends_none : (at : ℕ) (deep : Option ℕ) (rs : List Rec) → ends [] at deep rs ≡ Ok (record { next = at; deep = deep })
unfolding ends
ends_none at deep [] = refl
ends_none at deep (r ∷ rs) = refl

pub go_none : (ks ws : List ℕ) (at : ℕ) (deep : Option ℕ) → go ks ws [] at deep ≡ Ok (record { next = at; deep = deep })
unfolding go
go_none ks ws at deep = ends_none at deep (drop at (spell (λ n. []) ks ws))

-- past the last record nothing stands
pub go_out : (ks ws : List ℕ) (w : Want) (st : List Want) (at : ℕ) (deep : Option ℕ) → length ks ≤ at → go ks ws (w ∷ st) at deep ≡ Err at
unfolding go ends
go_out ks ws w st at deep h = rw (spell_past (λ n. []) ks ws at h)

-- at a record the walk goes by its kind and its number
pub go_in : (ks ws : List ℕ) (w : Want) (st : List Want) (at : ℕ) (deep : Option ℕ) → at < length ks → length ks ≡ length ws → go ks ws (w ∷ st) at deep
    ≡ on_shape (shape_of w.0 (get_or ks at 0)) (Err at) (λ s. go ks ws (wants w (follow s (rec_at (λ n. []) ks ws at).number) ++ st) (at + 1) (mark w at deep))
unfolding go ends
go_in ks ws w st at deep h e = ap (ends (w ∷ st) at deep) (spell_at (λ n. []) ks ws at h e)
    ∙ ap (λ (k : ℕ). on_shape (shape_of w.0 k) (Err at) (λ s. go ks ws (wants w (follow s (rec_at (λ n. []) ks ws at).number) ++ st) (at + 1) (mark w at deep))) (kind_at (λ n. []) ks ws at)

-- a part is of its own class
pub inner_class : (c : Class) (l : ℕ) (d : Class) → (inner_of c l d).0 ≡ d
unfolding inner_of
inner_class (one s) l d = refl
inner_class (list s) l d = refl

-- parts that a count announces, each at the level of one
pub wants_many : (w : Want) (d : Class) (n : ℕ) → wants w (replicate n d) ≡ replicate n (inner_of w.0 w.1 d)
wants_many w d zero = refl
wants_many w d (suc n) = ap {B = List Want} (λ r. inner_of w.0 w.1 d ∷ r) (wants_many w d n)
