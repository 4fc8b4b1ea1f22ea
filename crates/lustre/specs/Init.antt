-- `check_pre_initialization`, lib.rs 614: the steps of each `pre` that no arrow gives a first value, E0070.
-- Assumes nothing: these are definitions.
use Rattle.std.specs.Prelude.{ℕ, ◌+◌, Bool, true, false, List, [], ◌∷◌, ◌++◌, if◌then◌else◌}
use Rattle.lustre.specs.Types.{levels}
use Rattle.lustre.specs.Expr.{Expr, Exprs, Inits, const, var, unary, binary, ite, pre, arrow, call, field, index, tuple, array, struct, cast, when, merge, iterate, iterate_from, []ᵉ, ◌∷ᵉ◌, []ⁱ, init, size}

-- from a step on, under the body of an arrow or not
unfoldable mutual
  pub pres : ℕ → Expr → Bool → List ℕ
  pres at (const l w) under = []
  pres at (var x) under = []
  pres at (unary o e) under = pres (at + 1) e under
  pres at (binary o l r) under = pres (at + 1) l under ++ pres (at + 1 + size l) r under
  pres at (ite c t e) under = pres (at + 1) c under ++ pres (at + 1 + size c) t under ++ pres (at + 1 + size c + size t) e under
  pres at (pre e) under = (if under then [] else at ∷ []) ++ pres (at + 1) e false
  pres at (arrow i b) under = pres (at + 1) i under ++ pres (at + 1 + size i) b true
  pres at (call f es) under = pres_each (at + 2) es under
  pres at (field x e) under = pres (at + 1) e under
  pres at (index b i) under = pres (at + 1) b under ++ pres (at + 1 + size b) i under
  pres at (tuple es) under = pres_each (at + 1) es under
  pres at (array es) under = pres_each (at + 1) es under
  pres at (struct n is) under = pres_eachⁱ (at + 2) is under
  pres at (cast t e) under = pres (at + 1 + levels t) e under
  pres at (when on c e) under = pres (at + 1) e under
  pres at (merge c t f) under = pres (at + 1) t under ++ pres (at + 1 + size t) f under
  pres at (iterate k f es) under = pres_each (at + 2) es under
  pres at (iterate_from k f s es) under = pres (at + 1) s under ++ pres_each (at + 2 + size s) es under

  pub pres_each : ℕ → Exprs → Bool → List ℕ
  pres_each at []ᵉ under = []
  pres_each at (e ∷ᵉ es) under = pres at e under ++ pres_each (at + size e) es under

  pub pres_eachⁱ : ℕ → Inits → Bool → List ℕ
  pres_eachⁱ at []ⁱ under = []
  pres_eachⁱ at (init x e is) under = pres (at + 1) e under ++ pres_eachⁱ (at + 1 + size e) is under
