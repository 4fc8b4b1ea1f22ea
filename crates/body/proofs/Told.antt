-- What is told of an expression in record order, part by part: what lustre's `visit`, `pres` and `reads` tell of a part is what its first
-- record tells, and then what the parts behind that record tell.
-- Assumes nothing.
use Prim.Native.Nat.{ℕ, ◌+◌}
use native.Mathlib.Omega.{arith}
use mathlib.Core.Path.{◌≡◌, refl, ap}
use mathlib.Core.Bool.{Bool, true, false, true≢false}
use mathlib.Core.List.{List, [], ◌∷◌, ◌++◌, append_assoc, append-nil}
use Rattle.lustre.specs.Name.{Name}
use Rattle.lustre.specs.Types.{basic, Array, Named, Tuple}
use Rattle.lustre.specs.Expr.{Expr, Exprs, Inits, Form, integer, temporal, iterator, calling, other, form, size, visit, visits, visitsⁱ}
use Rattle.lustre.specs.Expr.{const, var, unary, binary, ite, pre, arrow, call, field, index, tuple, array, struct, cast, when, merge, iterate, iterate_from, []ᵉ, ◌∷ᵉ◌, []ⁱ, init}
use Rattle.lustre.specs.Init.{pres, pres_each, pres_eachⁱ}
use Rattle.lustre.specs.Deps.{reads, reads_each, reads_eachⁱ}
use Rattle.standing.specs.Standing.{sizes_of}
use Rattle.standing.proofs.Owed.{Part, of_type, of_expr, of_list, of_values, of_value, part_size, parts_size, items, field_values, in_part, opened_size}

module _ {A : Type 0} (f : ℕ → Part → List A) where
  -- what f tells of parts from a position on
  unfoldable pub told : ℕ → List Part → List A
  told at [] = []
  told at (p ∷ ps) = f at p ++ told (at + part_size p) ps

  told_append : (at : ℕ) (ps qs : List Part) → told at (ps ++ qs) ≡ told at ps ++ told (at + parts_size ps) qs
  unfolding told sizes_of
  told_append at [] qs = let q : at ≡ at + 0 = omega arith in ap (λ (m : ℕ). told m qs) q
  told_append at (p ∷ ps) qs =
      let q : at + part_size p + parts_size ps ≡ at + (part_size p + parts_size ps) = omega arith in
      rw (told_append (at + part_size p) ps qs, q, append_assoc)

  -- the first part's record tells its own, and its parts are told next
  pub told_open : (at : ℕ) (p : Part) (rest : List Part) (own : List A) → f at p ≡ own ++ told (at + 1) (in_part p) → told at (p ∷ rest) ≡ own ++ told (at + 1) (in_part p ++ rest)
  unfolding told
  told_open at p rest own h =
      let q : at + part_size p ≡ at + 1 + parts_size (in_part p) = omega (arith, opened_size p) in
      rw (h, q, append_assoc, told_append (at + 1) (in_part p) rest)

-- a list record is one record
two : (at : ℕ) → at + 1 + 1 ≡ at + 2
two at = omega arith

after : (at n : ℕ) → at + 1 + n + 1 ≡ at + 2 + n
after at n = omega arith

-- what the Rust's `matches!` asks of a part
abbrev pub part_form : Part → Form
part_form (of_type t) = other
part_form (of_expr e) = form e
part_form (of_list es) = other
part_form (of_values vs) = other
part_form (of_value x e) = other

unfoldable pub is_temporal : Form → Bool
is_temporal (integer v) = false
is_temporal temporal = true
is_temporal iterator = false
is_temporal (calling f) = false
is_temporal other = false

unfoldable pub is_iterator : Form → Bool
is_iterator (integer v) = false
is_iterator temporal = false
is_iterator iterator = true
is_iterator (calling f) = false
is_iterator other = false

-- ---- every sub-expression

unfoldable pub visit_part : ℕ → Part → List (ℕ × Expr)
visit_part at (of_type t) = []
visit_part at (of_expr e) = visit at e
visit_part at (of_list es) = visits (at + 1) es
visit_part at (of_values vs) = visitsⁱ (at + 1) vs
visit_part at (of_value x e) = visit (at + 1) e

-- what a part's first record shows
abbrev pub shown : ℕ → Part → List (ℕ × Expr)
shown at (of_type t) = []
shown at (of_expr e) = (at, e) ∷ []
shown at (of_list es) = []
shown at (of_values vs) = []
shown at (of_value x e) = []

visits_items : (es : Exprs) (at : ℕ) → visits at es ≡ told visit_part at (items es)
unfolding visit told visit_part
visits_items []ᵉ at = refl
visits_items (e ∷ᵉ es) at = ap (λ (l : List (ℕ × Expr)). visit at e ++ l) (visits_items es (at + size e))

visits_values : (vs : Inits) (at : ℕ) → visitsⁱ at vs ≡ told visit_part at (field_values vs)
unfolding visit told visit_part
visits_values []ⁱ at = refl
visits_values (init x e vs) at =
    let q : at + (1 + size e) ≡ at + 1 + size e = omega arith in
    rw q (ap (λ (l : List (ℕ × Expr)). visit (at + 1) e ++ l) (visits_values vs (at + 1 + size e)))

pub visit_opens : (p : Part) (at : ℕ) → visit_part at p ≡ shown at p ++ told visit_part (at + 1) (in_part p)
unfolding visit told visit_part
visit_opens (of_type (basic b)) at = refl
visit_opens (of_type (Array n t)) at = refl
visit_opens (of_type (Named x)) at = refl
visit_opens (of_type (Tuple n)) at = refl
visit_opens (of_list es) at = visits_items es (at + 1)
visit_opens (of_values vs) at = visits_values vs (at + 1)
visit_opens (of_value x e) at = simp append-nil
visit_opens (of_expr (const l w)) at = refl
visit_opens (of_expr (var x)) at = refl
visit_opens (of_expr (unary o a)) at = simp append-nil
visit_opens (of_expr (binary o a b)) at = simp append-nil
visit_opens (of_expr (ite c a b)) at = simp (append-nil, append_assoc)
visit_opens (of_expr (pre a)) at = simp append-nil
visit_opens (of_expr (arrow a b)) at = simp append-nil
visit_opens (of_expr (call f es)) at = simp (append-nil, two)
visit_opens (of_expr (field x a)) at = simp append-nil
visit_opens (of_expr (index a b)) at = simp append-nil
visit_opens (of_expr (tuple es)) at = ap (λ (l : List (ℕ × Expr)). (at, tuple es) ∷ l) (visits_items es (at + 1))
visit_opens (of_expr (array es)) at = ap (λ (l : List (ℕ × Expr)). (at, array es) ∷ l) (visits_items es (at + 1))
visit_opens (of_expr (struct x vs)) at = simp (append-nil, two)
visit_opens (of_expr (cast t a)) at = simp append-nil
visit_opens (of_expr (when on c a)) at = simp append-nil
visit_opens (of_expr (merge c a b)) at = simp append-nil
visit_opens (of_expr (iterate i f es)) at = simp (append-nil, two)
visit_opens (of_expr (iterate_from i f a es)) at = simp (append-nil, after)

-- ---- each `pre` without a first value

module _ (under : Bool) where
  unfoldable pub pres_part : ℕ → Part → List ℕ
  pres_part at (of_type t) = []
  pres_part at (of_expr e) = pres at e under
  pres_part at (of_list es) = pres_each (at + 1) es under
  pres_part at (of_values vs) = pres_eachⁱ (at + 1) vs under
  pres_part at (of_value x e) = pres (at + 1) e under

  pres_items : (es : Exprs) (at : ℕ) → pres_each at es under ≡ told pres_part at (items es)
  unfolding pres told pres_part
  pres_items []ᵉ at = refl
  pres_items (e ∷ᵉ es) at = ap (λ (l : List ℕ). pres at e under ++ l) (pres_items es (at + size e))

  pres_values : (vs : Inits) (at : ℕ) → pres_eachⁱ at vs under ≡ told pres_part at (field_values vs)
  unfolding pres told pres_part
  pres_values []ⁱ at = refl
  pres_values (init x e vs) at =
      let q : at + (1 + size e) ≡ at + 1 + size e = omega arith in
      rw q (ap (λ (l : List ℕ). pres (at + 1) e under ++ l) (pres_values vs (at + 1 + size e)))

  pub pres_opens : (p : Part) (at : ℕ) → is_temporal (part_form p) ≡ false → pres_part at p ≡ told pres_part (at + 1) (in_part p)
  unfolding pres told pres_part form is_temporal
  pres_opens (of_type (basic b)) at h = refl
  pres_opens (of_type (Array n t)) at h = refl
  pres_opens (of_type (Named x)) at h = refl
  pres_opens (of_type (Tuple n)) at h = refl
  pres_opens (of_list es) at h = pres_items es (at + 1)
  pres_opens (of_values vs) at h = pres_values vs (at + 1)
  pres_opens (of_value x e) at h = simp append-nil
  pres_opens (of_expr (const l w)) at h = refl
  pres_opens (of_expr (var x)) at h = refl
  pres_opens (of_expr (unary o a)) at h = simp append-nil
  pres_opens (of_expr (binary o a b)) at h = simp append-nil
  pres_opens (of_expr (ite c a b)) at h = simp (append-nil, append_assoc)
  pres_opens (of_expr (pre a)) at h = absurd (true≢false h)
  pres_opens (of_expr (arrow a b)) at h = absurd (true≢false h)
  pres_opens (of_expr (call f es)) at h = simp (append-nil, two)
  pres_opens (of_expr (field x a)) at h = simp append-nil
  pres_opens (of_expr (index a b)) at h = simp append-nil
  pres_opens (of_expr (tuple es)) at h = pres_items es (at + 1)
  pres_opens (of_expr (array es)) at h = pres_items es (at + 1)
  pres_opens (of_expr (struct x vs)) at h = simp (append-nil, two)
  pres_opens (of_expr (cast t a)) at h = simp append-nil
  pres_opens (of_expr (when on c a)) at h = simp append-nil
  pres_opens (of_expr (merge c a b)) at h = simp append-nil
  pres_opens (of_expr (iterate i f es)) at h = simp (append-nil, two)
  pres_opens (of_expr (iterate_from i f a es)) at h = simp (append-nil, after)

-- ---- the names read in the same instant

unfoldable pub reads_part : ℕ → Part → List Name
reads_part at (of_type t) = []
reads_part at (of_expr e) = reads e
reads_part at (of_list es) = reads_each es
reads_part at (of_values vs) = reads_eachⁱ vs
reads_part at (of_value x e) = reads e

-- the name that the first record of an expression reads, and of a part
unfoldable pub head_names : Expr → List Name
head_names (const l w) = []
head_names (var x) = x ∷ []
head_names (unary o a) = []
head_names (binary o a b) = []
head_names (ite c a b) = []
head_names (pre a) = []
head_names (arrow a b) = []
head_names (call f es) = []
head_names (field x a) = []
head_names (index a b) = []
head_names (tuple es) = []
head_names (array es) = []
head_names (struct x vs) = []
head_names (cast t a) = []
head_names (when on c a) = c ∷ []
head_names (merge c a b) = c ∷ []
head_names (iterate i f es) = []
head_names (iterate_from i f a es) = []

abbrev pub read_here : Part → List Name
read_here (of_type t) = []
read_here (of_expr e) = head_names e
read_here (of_list es) = []
read_here (of_values vs) = []
read_here (of_value x e) = []

reads_items : (es : Exprs) (at : ℕ) → reads_each es ≡ told reads_part at (items es)
unfolding reads told reads_part
reads_items []ᵉ at = refl
reads_items (e ∷ᵉ es) at = ap (λ (l : List Name). reads e ++ l) (reads_items es (at + size e))

reads_values : (vs : Inits) (at : ℕ) → reads_eachⁱ vs ≡ told reads_part at (field_values vs)
unfolding reads told reads_part
reads_values []ⁱ at = refl
reads_values (init x e vs) at = ap (λ (l : List Name). reads e ++ l) (reads_values vs (at + (1 + size e)))

pub reads_opens : (p : Part) (at : ℕ) → ((a : Expr) → p ≡ of_expr (pre a) → ⊥) → reads_part at p ≡ read_here p ++ told reads_part (at + 1) (in_part p)
unfolding reads told reads_part head_names
reads_opens (of_type (basic b)) at h = refl
reads_opens (of_type (Array n t)) at h = refl
reads_opens (of_type (Named x)) at h = refl
reads_opens (of_type (Tuple n)) at h = refl
reads_opens (of_list es) at h = reads_items es (at + 1)
reads_opens (of_values vs) at h = reads_values vs (at + 1)
reads_opens (of_value x e) at h = simp append-nil
reads_opens (of_expr (const l w)) at h = refl
reads_opens (of_expr (var x)) at h = refl
reads_opens (of_expr (unary o a)) at h = simp append-nil
reads_opens (of_expr (binary o a b)) at h = simp append-nil
reads_opens (of_expr (ite c a b)) at h = simp (append-nil, append_assoc)
reads_opens (of_expr (pre a)) at h = absurd (h a refl)
reads_opens (of_expr (arrow a b)) at h = simp append-nil
reads_opens (of_expr (call f es)) at h = simp append-nil
reads_opens (of_expr (field x a)) at h = simp append-nil
reads_opens (of_expr (index a b)) at h = simp append-nil
reads_opens (of_expr (tuple es)) at h = reads_items es (at + 1)
reads_opens (of_expr (array es)) at h = reads_items es (at + 1)
reads_opens (of_expr (struct x vs)) at h = simp append-nil
reads_opens (of_expr (cast t a)) at h = simp append-nil
reads_opens (of_expr (when on c a)) at h = simp append-nil
reads_opens (of_expr (merge c a b)) at h = simp append-nil
reads_opens (of_expr (iterate i f es)) at h = simp append-nil
reads_opens (of_expr (iterate_from i f a es)) at h = simp append-nil
