-- The walk by places and the reader agree: both stop at one record or end at one, and the mark that comes out is the first record too deep.
-- Neither depends on the names. Assumes nothing.
use mathlib.Core.Path.{◌≡◌, refl, ap, ap₂, sym, subst, ◌∙◌, fun_ext}
use mathlib.Core.Bool.{Bool, true, false}
use mathlib.Core.List.{List, [], ◌∷◌, ◌++◌, map}
use mathlib.Core.Option as maybe
use Prim.Native.Nat.{ℕ, suc, ◌+◌}
use native.Mathlib.Omega.{arith}
use lib.ListN.{length, drop}
use Rattle.std.proofs.Common.{Option, None, Some, Ok, Err}
use Rattle.lustre.specs.Name.{Name}
use Rattle.lustre.specs.Records.{Rec, word_class, spell}
use Rattle.lustre.specs.Grammar.{Class, Trees, Shape, follow, Entry, entries, entry, Got, got, stuck, at_entry, read}
use Rattle.lustre.specs.Levels.{too_deep, deep_record}
use Rattle.demands.specs.Reading.{reads}
use Rattle.records.specs.Places.{Want, Walk, mark, shape_in, shape_of, on_shape, wants, ends, go}
use Rattle.records.specs.Tables.{placed}
use Rattle.records.specs.declared.Reached.{Reached}
use Rattle.records.proofs.Spells.{spelled, spell_drop}
use Rattle.records.proofs.Steps.{inner_class}

-- the classes that are wanted, at whatever levels
abbrev classes : List Want → List Class
classes st = map (λ (w : Want). w.0) st

classes_wants : (w : Want) (ds : List Class) (st : List Want) → classes (wants w ds ++ st) ≡ ds ++ classes st
classes_wants w [] st = refl
classes_wants w (d ∷ ds) st = ap₂ {C = List Class} (λ c cs. c ∷ cs) (inner_class w.0 w.1 d) (classes_wants w ds st)

-- both are stuck or both end, with the same records left of those up to place n
abbrev pub Match : {A : Type 0} → ℕ → Walk → Got A → Type 0
Match n (Ok r) (got a rest) = r.next + length rest ≡ n
Match n (Ok r) (stuck rest) = ⊥
Match n (Err p) (got a rest) = ⊥
Match n (Err p) (stuck rest) = p + length rest ≡ n

match_step : {A : Type 0} (n : ℕ) (c : Class) (o : maybe.Option (Entry c)) (at : ℕ) (rs : List Rec) (f : Shape → Walk) (g : Entry c → Got A)
    → at + length rs ≡ n → ((e : Entry c) → Match n (f e.shape) (g e)) → Match n (on_shape (shape_in o) (Err at) f) (at_entry rs o g)
unfolding on_shape shape_in
match_step n c maybe.none at rs f g q h = q
match_step n c (maybe.some e) at rs f g q h = h e

agree : {A : Type 0} (rs : List Rec) (st : List Want) (at : ℕ) (deep : Option ℕ) (f : Trees (classes st) → A) → Match (at + length rs) (ends st at deep rs) (read (classes st) f rs)
unfolding ends read shape_of
agree [] [] at deep f = refl
agree [] (w ∷ st) at deep f = refl
agree (r ∷ rs) [] at deep f = refl
agree {A} (r ∷ rs) (w ∷ st) at deep f = match_step (at + suc (length rs)) w.0 (entry r.kind (entries w.0)) at (r ∷ rs) _ _ refl (λ e.
    let ds = follow e.shape r.number in
    let t = wants w ds ++ st in
    let m : at + 1 + length rs ≡ at + suc (length rs) = omega arith in
    subst (λ (cs : List Class). (g : Trees cs → A) → Match (at + suc (length rs)) (ends t (at + 1) (mark w at deep) rs) (read cs g rs)) (classes_wants w ds st)
    (λ g. subst (λ (n : ℕ). Match n (ends t (at + 1) (mark w at deep) rs) (read (classes t) g rs)) m (agree rs t (at + 1) (mark w at deep) g)) _)

-- a walk that ends has gone on at its first record
goes_on : (o : maybe.Option Shape) (at : ℕ) (r : Reached) (f : Shape → Walk) → on_shape o (Err at) f ≡ Ok r → (s : Shape) × (o ≡ maybe.some s) × (f s ≡ Ok r)
unfolding on_shape
goes_on maybe.none at r f q = cc
goes_on (maybe.some s) at r f q = (s, refl, q)

-- a mark stays
kept : (rs : List Rec) (st : List Want) (at deep : ℕ) (r : Reached) → ends st at (Some deep) rs ≡ Ok r → r.deep ≡ Some deep
unfolding ends mark
kept [] [] at deep r q = cc
kept [] (w ∷ st) at deep r q = cc
kept (x ∷ rs) [] at deep r q = cc
kept (x ∷ rs) (w ∷ st) at deep r q = let u = goes_on _ at r _ q in kept rs _ (at + 1) deep r u.2

-- the mark that comes out is the first record too deep
marked_step : (w : Want) (st : List Want) (at : ℕ) (x : Rec) (rs : List Rec) (r : Reached)
    → ((st : List Want) → ends st (at + 1) None rs ≡ Ok r → r.deep ≡ placed (deep_record st (at + 1) rs))
    → (b : Bool) → too_deep w.0 w.1 ≡ b → (o : maybe.Option (Entry w.0))
    → on_shape (shape_in o) (Err at) (λ s. ends (wants w (follow s x.number) ++ st) (at + 1) (mark w at None) rs) ≡ Ok r
    → r.deep ≡ placed (elim b [ true ↦ maybe.some at | false ↦ elim o [ maybe.none ↦ maybe.none | maybe.some e ↦ deep_record (wants w (follow e.shape x.number) ++ st) (at + 1) rs ] ])
unfolding on_shape shape_in mark
marked_step w st at x rs r ih true p o q =
    let u = goes_on (shape_in o) at r (λ s. ends (wants w (follow s x.number) ++ st) (at + 1) (mark w at None) rs) q in
    let m : mark w at None ≡ Some at = rw p in
    let t = wants w (follow u.0 x.number) ++ st in
    kept rs t (at + 1) at r (ap (λ (d : Option ℕ). ends t (at + 1) d rs) (sym m) ∙ u.2)
marked_step w st at x rs r ih false p maybe.none q = cc
marked_step w st at x rs r ih false p (maybe.some e) q =
    let m : mark w at None ≡ None = rw p in
    let t = wants w (follow e.shape x.number) ++ st in
    ih t (ap (λ (d : Option ℕ). ends t (at + 1) d rs) (sym m) ∙ q)

pub marked : (rs : List Rec) (st : List Want) (at : ℕ) (r : Reached) → ends st at None rs ≡ Ok r → r.deep ≡ placed (deep_record st at rs)
unfolding ends deep_record shape_of
marked [] [] at r q = cc
marked [] (w ∷ st) at r q = cc
marked (x ∷ rs) [] at r q = cc
marked (x ∷ rs) (w ∷ st) at r q = marked_step w st at x rs r (λ t. marked rs t (at + 1) r) (too_deep w.0 w.1) refl (entry x.kind (entries w.0)) q

-- records of the same kinds and numbers are walked alike
ends_alike : (r s : Rec) (rs ss : List Rec) → r.kind ≡ s.kind → r.number ≡ s.number → ((st : List Want) (at : ℕ) (deep : Option ℕ) → ends st at deep rs ≡ ends st at deep ss)
    → (st : List Want) (at : ℕ) (deep : Option ℕ) → ends st at deep (r ∷ rs) ≡ ends st at deep (s ∷ ss)
unfolding ends
ends_alike r s rs ss k n h [] at deep = refl
ends_alike r s rs ss k n h (w ∷ st) at deep =
    ap₂ {C = Walk} (λ (j i : ℕ). on_shape (shape_of w.0 j) (Err at) (λ c. ends (wants w (follow c i) ++ st) (at + 1) (mark w at deep) rs)) k n
    ∙ ap (on_shape (shape_of w.0 s.kind) (Err at)) (fun_ext (λ c. h (wants w (follow c s.number) ++ st) (at + 1) (mark w at deep)))

-- so the walk is the same under every numbering of names
ends_names : (ρ σ : ℕ → Name) (ks ws : List ℕ) (st : List Want) (at : ℕ) (deep : Option ℕ) → ends st at deep (spell ρ ks ws) ≡ ends st at deep (spell σ ks ws)
unfolding spell
ends_names ρ σ [] ws st at deep = refl
ends_names ρ σ (k ∷ ks) [] st at deep = refl
ends_names ρ σ (k ∷ ks) (w ∷ ws) st at deep =
    let a = spelled (word_class k) k w (ρ w) (σ w) in
    let b = spelled (word_class k) k w (σ w) (σ w) in
    ends_alike _ _ _ _ (a.0 ∙ sym b.0) a.1 (ends_names ρ σ ks ws) st at deep

pub go_names : (ρ : ℕ → Name) (ks ws : List ℕ) (st : List Want) (at : ℕ) (deep : Option ℕ) → go ks ws st at deep ≡ ends st at deep (drop at (spell ρ ks ws))
unfolding go
go_names ρ ks ws st at deep = ap (ends st at deep) (sym (spell_drop (λ n. []) at ks ws)) ∙ ends_names (λ n. []) ρ (drop at ks) (drop at ws) st at deep ∙ ap (ends st at deep) (spell_drop ρ at ks ws)

-- so it agrees with the reader of one tree, from any position and under every numbering
pub go_agree : (ρ : ℕ → Name) (ks ws : List ℕ) (c : Class) (l at : ℕ) (deep : Option ℕ)
    → Match (at + length (drop at (spell ρ ks ws))) (go ks ws ((c, l) ∷ []) at deep) (reads c (drop at (spell ρ ks ws)))
go_agree ρ ks ws c l at deep =
    let rs = drop at (spell ρ ks ws) in
    subst (λ (r : Walk). Match (at + length rs) r (reads c rs)) (sym (go_names ρ ks ws ((c, l) ∷ []) at deep)) (agree rs ((c, l) ∷ []) at deep (λ v. v.0))
