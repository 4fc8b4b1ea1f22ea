-- A walk over the records of an expression: the parts that are still to come, and what is still to be told of them.
-- Assumes nothing.
use Prim.Native.Nat.{ℕ, ◌+◌, ◌-◌, ◌≤◌, ◌<◌}
use native.Mathlib.Omega.{arith}
use mathlib.Core.Path.{◌≡◌, ap, ◌∙◌}
use mathlib.Core.List.{List, [], ◌∷◌, ◌++◌, append-nil}
use Rattle.lustre.specs.Expr.{Expr, size, pre, arrow}
use Rattle.standing.specs.Standing.{Source, word, ExprAt}
use Rattle.standing.specs.Owed.{owes}
use Rattle.standing.proofs.Inversions.{pre_here, arrow_here}
use Rattle.standing.proofs.Owed.{Part, of_expr, part_size, PartAt, in_part, kind, Owing, expr_part, start, next, owing_few, owing_none}
use Rattle.body.proofs.Told.{told}
use Rattle.body.proofs.Heads.{Here, here}

module _ (S : Source) {A : Type 0} (f : ℕ → Part → List A) (R : List A → Type 0) where
  -- the parts from a position up to an end, so many; R holds of what f tells of them
  pub record Walk (at end left : ℕ) : Type 0 where
    pub ps : List Part
    pub owing : Owing S ps at end left
    pub rest : R (told f at ps)

  -- the first of them and the others
  pub record First (at end left : ℕ) : Type 0 where
    pub p : Part
    pub ps : List Part
    pub p_at : PartAt S p at
    pub says : Here S at p
    pub onward : Owing S (in_part p ++ ps) (at + 1) end (left - 1 + owes (kind S at) (word S at))
    pub behind : Owing S ps (at + part_size p) end (left - 1)
    pub rest : R (told f at (p ∷ ps))

  pub walk_start : {end : ℕ} (e : Expr) (at : ℕ) → ExprAt S e at → at + size e ≡ end → R (f at (of_expr e)) → Walk at end 1
  unfolding told
  walk_start e at s q r = record { ps = of_expr e ∷ []; owing = rw q at (start S e at s); rest = rw append-nil r }

  pub walk_first : {at end left : ℕ} → Walk at end left → (left ≡ 0 → ⊥) → First at end left
  walk_first {at} w z =
      let n = next S w.owing z in
      record { p = n.p; ps = n.rest; p_at = n.p_at; says = here S n.p at n.p_at; onward = n.onward; behind = n.behind; rest = rw n.is at w.rest }

  -- where the first is a `pre`, it and its argument
  pub record FirstPre (at end left : ℕ) : Type 0 where
    pub a : Expr
    pub ps : List Part
    pub a_at : ExprAt S a (at + 1)
    pub behind : Owing S ps (at + 1 + size a) end (left - 1)
    pub rest : R (f at (of_expr (pre a)) ++ told f (at + 1 + size a) ps)

  pub walk_pre : {at end left : ℕ} → Walk at end left → (left ≡ 0 → ⊥) → kind S at ≡ 68 → FirstPre at end left
  unfolding told size
  walk_pre {at} w z h =
      let t = walk_first w z in
      let e = expr_part S t.p at t.p_at (omega (arith, h)) (omega (arith, h)) in
      let x = pre_here S e.0 at e.2 h in
      let q : t.p ≡ of_expr (pre x.a) = e.1 ∙ ap of_expr x.is in
      let m : at + (1 + size x.a) ≡ at + 1 + size x.a = omega arith in
      record { a = x.a; ps = t.ps; a_at = x.a_at; behind = rw (q, m) at t.behind; rest = rw (q, m) at t.rest }

  -- where it is an arrow, it and its sides
  pub record FirstArrow (at end left : ℕ) : Type 0 where
    pub a : Expr
    pub b : Expr
    pub ps : List Part
    pub a_at : ExprAt S a (at + 1)
    pub b_at : ExprAt S b (at + 1 + size a)
    pub behind : Owing S ps (at + 1 + size a + size b) end (left - 1)
    pub rest : R (f at (of_expr (arrow a b)) ++ told f (at + 1 + size a + size b) ps)

  pub walk_arrow : {at end left : ℕ} → Walk at end left → (left ≡ 0 → ⊥) → kind S at ≡ 69 → FirstArrow at end left
  unfolding told size
  walk_arrow {at} w z h =
      let t = walk_first w z in
      let e = expr_part S t.p at t.p_at (omega (arith, h)) (omega (arith, h)) in
      let x = arrow_here S e.0 at e.2 h in
      let q : t.p ≡ of_expr (arrow x.a x.b) = e.1 ∙ ap of_expr x.is in
      let m : at + (1 + size x.a + size x.b) ≡ at + 1 + size x.a + size x.b = omega arith in
      record { a = x.a; b = x.b; ps = t.ps; a_at = x.a_at; b_at = x.b_at; behind = rw (q, m) at t.behind; rest = rw (q, m) at t.rest }

  pub walk_done : {at end left : ℕ} → Walk at end left → left ≡ 0 → R [] × (at ≡ end)
  unfolding told
  walk_done w z = let n = owing_none S w.owing z in (rw n.0 at w.rest, n.1)

  -- before the end something is owed, and at the end nothing is
  pub walk_more : {at end left : ℕ} → Walk at end left → at < end → left ≡ 0 → ⊥
  walk_more w h z = omega (arith, (walk_done w z).1)

  pub walk_all : {at end left : ℕ} → Walk at end left → end ≤ at → left ≡ 0
  walk_all w h = omega (arith, owing_few S w.owing)
