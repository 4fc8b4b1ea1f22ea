-- A scan of all records of a right-hand side shows each sub-expression once, in order: the first temporal operator, and each iterator.
-- Assumes nothing.
use Rattle.std.specs.Prelude.{if◌then◌else◌}
use Prim.Native.Nat.{ℕ, zero, suc, ◌+◌, ◌≤◌, ◌<◌}
use native.Mathlib.Omega.{arith}
use mathlib.Core.Path.{◌≡◌, refl, ap, sym, ◌∙◌}
use mathlib.Core.Bool.{Bool, true, false, ◌||◌}
use mathlib.Core.List.{List, [], ◌∷◌, ◌++◌, tail}
use lib.ListN.{length, length-drop, get_or, take, drop}
use Rattle.std.proofs.lemmas.List.FromFn.{length-enumerate_from, get_or-enumerate_from}
use lib.Seq.{drop-cons}
use Rattle.std.proofs.lemmas.List.{get_or-drop, get_or_append_left, get_or_default}
use native.Mathlib.Numerals.{add-one}
use native.Mathlib.Nat.{zero-add}
use Rattle.std.specs.List.{list_any, enumerate_from}
use Rattle.lustre.specs.Name.{Name}
use Rattle.lustre.specs.Expr.{Expr, Form, integer, temporal, iterator, calling, other, form, any_temporal, contains_temporal, size}
use Rattle.lustre.specs.Placement.{iterators, nested}
use Rattle.lines.specs.Lines.{Noted}
use Rattle.lines.specs.declared.Spot.{Spot}
use Rattle.lines.specs.declared.Lines.{Lines}
use Rattle.standing.specs.Standing.{Source, ExprAt}
use Rattle.standing.proofs.Owed.{Part, of_type, of_expr, of_list, of_values, of_value, in_expr, in_part, kind, inside, next}
use Rattle.body.specs.Body.{notes, temporal_kind, iterator_kind}
use Rattle.body.proofs.Told.{part_form, is_temporal, is_iterator, visit_part, shown, visit_opens, told, told_open}
use Rattle.body.proofs.Writing.{Still, still_start, still_step, still_done}
use Rattle.body.proofs.Walks.{Walk, First, walk_start, walk_first, walk_done, walk_more, walk_all}

-- one sub-expression more, by its form
module _ (x : ℕ × Expr) (xs : List (ℕ × Expr)) where
  any_more : any_temporal (x ∷ xs) ≡ (is_temporal (form x.1) || any_temporal xs)
  unfolding any_temporal is_temporal
  any_more = go (form x.1) refl
    where
      go : (f : Form) → form x.1 ≡ f → any_temporal (x ∷ xs) ≡ (is_temporal (form x.1) || any_temporal xs)
      go (integer v) e = rw (e, any_temporal)
      go temporal e = rw (e, any_temporal)
      go iterator e = rw (e, any_temporal)
      go (calling g) e = rw (e, any_temporal)
      go other e = rw (e, any_temporal)

  iterators_more : iterators (x ∷ xs) ≡ (if is_iterator (form x.1) then x.0 ∷ [] else []) ++ iterators xs
  unfolding iterators is_iterator
  iterators_more = go (form x.1) refl
    where
      go : (f : Form) → form x.1 ≡ f → iterators (x ∷ xs) ≡ (if is_iterator (form x.1) then x.0 ∷ [] else []) ++ iterators xs
      go (integer v) e = rw (e, iterators)
      go temporal e = rw (e, iterators)
      go iterator e = rw (e, iterators)
      go (calling g) e = rw (e, iterators)
      go other e = rw (e, iterators)

-- one part more
any_shown : (at : ℕ) (p : Part) (l : List (ℕ × Expr)) → any_temporal (shown at p ++ l) ≡ (is_temporal (part_form p) || any_temporal l)
unfolding is_temporal
any_shown at (of_type t) l = refl
any_shown at (of_expr e) l = any_more (at, e) l
any_shown at (of_list es) l = refl
any_shown at (of_values vs) l = refl
any_shown at (of_value x e) l = refl

iterators_shown : (at : ℕ) (p : Part) (l : List (ℕ × Expr)) → iterators (shown at p ++ l) ≡ (if is_iterator (part_form p) then at ∷ [] else []) ++ iterators l
unfolding is_iterator
iterators_shown at (of_type t) l = refl
iterators_shown at (of_expr e) l = iterators_more (at, e) l
iterators_shown at (of_list es) l = refl
iterators_shown at (of_values vs) l = refl
iterators_shown at (of_value x e) l = refl

module _ (S : Source) (e : Expr) where
  -- the records from a position on show as much as the whole right-hand side
  abbrev Any : List (ℕ × Expr) → Type 0
  Any l = any_temporal l ≡ contains_temporal e

  abbrev pub Unseen : ℕ → ℕ → Type 0
  Unseen end at = (left : ℕ) × Walk S visit_part Any at end left

  pub unseen_start : {end : ℕ} → ExprAt S e 0 → size e ≡ end → Unseen end 0
  unfolding visit_part contains_temporal
  unseen_start s q = (1, walk_start S visit_part Any e 0 s (omega arith) refl)

  module _ {end at : ℕ} (w : Unseen end at) where
    abbrev unseen_first : at < end → First S visit_part Any at end w.0
    unseen_first h = walk_first S visit_part Any w.1 (walk_more S visit_part Any w.1 h)

    -- the record here shows it, or those behind it do
    seen : (h : at < end) → let f = unseen_first h in (temporal_kind (kind S at) || any_temporal (told visit_part (at + 1) (in_part f.p ++ f.ps))) ≡ contains_temporal e
    seen h =
        let f = unseen_first h in
        rw (f.says.temporal, ← any_shown at f.p, ← told_open visit_part at f.p f.ps (shown at f.p) (visit_opens f.p at)) f.rest

    pub unseen_in : at < end → at < length S.ks
    unseen_in h = (next S w.1.owing (walk_more S visit_part Any w.1 h)).head.in_kinds

    pub unseen_found : at < end → temporal_kind (kind S at) ≡ true → true ≡ contains_temporal e
    unseen_found h t = rw t at (seen h)

    pub unseen_pass : at < end → temporal_kind (kind S at) ≡ false → Unseen end (at + 1)
    unseen_pass h t = let f = unseen_first h in (_, record { ps = in_part f.p ++ f.ps; owing = f.onward; rest = rw t at (seen h) })

    pub unseen_done : end ≤ at → false ≡ contains_temporal e
    unfolding any_temporal
    unseen_done h = (walk_done S visit_part Any w.1 (walk_all S visit_part Any w.1 h)).0

  -- the records from a position up to the end have a temporal operator exactly if the right-hand side has one
  pub unseen_any : (n : ℕ) {end at : ℕ} → at + n ≡ end → Unseen end at → list_any temporal_kind (take n (drop at S.ks)) ≡ contains_temporal e
  unseen_any zero q w = unseen_done w (omega arith)
  unseen_any (suc n) {end} {at} q w =
      let l : at < end = omega arith in
      rw (drop-cons S.ks at 0 (unseen_in w l), ← add-one at) (go (λ t. unseen_any n (omega arith) (unseen_pass w l t)) (temporal_kind (kind S at)) refl)
    where
      go : (temporal_kind (kind S at) ≡ false → list_any temporal_kind (take n (drop (at + 1) S.ks)) ≡ contains_temporal e) →
          (b : Bool) → temporal_kind (kind S at) ≡ b → (b || list_any temporal_kind (take n (drop (at + 1) S.ks))) ≡ contains_temporal e
      go ih true t = unseen_found w (omega arith) t
      go ih false t = ih t

-- the iterators inside a right-hand side are those behind its first record
nested_inside : (e : Expr) → nested e ≡ iterators (told visit_part 1 (in_expr e))
unfolding visit_part nested
nested_inside e = ap (λ (l : List (ℕ × Expr)). iterators (tail l)) (visit_opens (of_expr e) 0)

module _ (S : Source) (e : Expr) (num : Name → ℕ) (q : Spot) (l₀ : Lines) where
  -- the iterators from a position on are still to be noted
  abbrev Nested : Lines → List (ℕ × Expr) → Type 0
  Nested l xs = Still num q 146 (nested e) l₀ l (iterators xs)

  abbrev pub Unplaced : ℕ → ℕ → Lines → Type 0
  Unplaced end at l = (left : ℕ) × Walk S visit_part (Nested l) at end left

  pub unplaced_start : {end : ℕ} → ExprAt S e 0 → size e ≡ end → Unplaced end 1 l₀
  unplaced_start s h =
      let z : 0 + size e ≡ size e = omega arith in
      (_, record { ps = in_expr e; owing = rw (z, h) at (inside S e 0 s); rest = rw (← nested_inside e) (still_start num q 146 (nested e) l₀) })

  module _ {end at : ℕ} {l : Lines} (w : Unplaced end at l) where
    pub unplaced_pass : {l' : Lines} → at < end → Noted num q (notes 146 (if iterator_kind (kind S at) then at ∷ [] else [])) l l' → Unplaced end (at + 1) l'
    unplaced_pass h d =
        let f = walk_first S visit_part (Nested l) w.1 (walk_more S visit_part (Nested l) w.1 h) in
        let r = rw (told_open visit_part at f.p f.ps (shown at f.p) (visit_opens f.p at), iterators_shown at f.p, ← f.says.iterator) at f.rest in
        (_, record { ps = in_part f.p ++ f.ps; owing = f.onward; rest = still_step num q 146 (nested e) l₀ (if iterator_kind (kind S at) then at ∷ [] else []) (iterators (told visit_part (at + 1) (in_part f.p ++ f.ps))) r d })

    pub unplaced_done : end ≤ at → Noted num q (notes 146 (nested e)) l₀ l
    unfolding iterators
    unplaced_done h = still_done num q 146 (nested e) l₀ (walk_done S visit_part (Nested l) w.1 (walk_all S visit_part (Nested l) w.1 h)).0

-- an item of the kinds with their positions, but for the first
pub scan_turn : (ks after : List ℕ) (i step k : ℕ) → i < length (drop 1 (enumerate_from 0 ks)) → (step, k) ≡ get_or (drop 1 (enumerate_from 0 ks)) i (step, k) →
    (1 + i < length ks) × (step ≡ 1 + i) × (k ≡ get_or (ks ++ after) (1 + i) 0)
scan_turn ks after i step k h e =
    let l : 1 + i < length ks = omega (arith, simp (length-drop, length-enumerate_from) at h) in
    let q : (step, k) ≡ (0 + (1 + i), get_or ks (1 + i) k) = e ∙ get_or-drop 1 (enumerate_from 0 ks) i (step, k) ∙ get_or-enumerate_from 0 ks (1 + i) (step, k) l in
    (l, rw zero-add at (ap (λ p. p.0) q), ap (λ p. p.1) q ∙ get_or_default ks (1 + i) k 0 l ∙ sym (get_or_append_left ks after 0 (1 + i) l))
