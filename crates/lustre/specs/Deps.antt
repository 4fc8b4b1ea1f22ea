-- The names that an expression reads in the same instant, and the graph of a node's equations: `collect_immediate_deps`, lib.rs 1534, and
-- since request 2.6 the body of an arrow too, which the Rust leaves out.
-- Assumes nothing: these are definitions.
use Rattle.std.specs.Prelude.{List, [], ◌∷◌, ◌++◌, map, if◌then◌else◌}
use Rattle.lustre.specs.Name.{Name, ◌among◌, set_of}
use Rattle.lustre.specs.Expr.{Expr, Exprs, Inits, const, var, unary, binary, ite, pre, arrow, call, field, index, tuple, array, struct, cast, when, merge, iterate, iterate_from, []ᵉ, ◌∷ᵉ◌, []ⁱ, init}
use Rattle.lustre.specs.Project.{Equation}

-- all names but those under pre: clocks are read, and both sides of an arrow, whose body is read from the second instant on
unfoldable mutual
  pub reads : Expr → List Name
  reads (const l w) = []
  reads (var x) = x ∷ []
  reads (unary o e) = reads e
  reads (binary o l r) = reads l ++ reads r
  reads (ite c t e) = reads c ++ reads t ++ reads e
  reads (pre e) = []
  reads (arrow i b) = reads i ++ reads b
  reads (call f es) = reads_each es
  reads (field x e) = reads e
  reads (index b i) = reads b ++ reads i
  reads (tuple es) = reads_each es
  reads (array es) = reads_each es
  reads (struct n is) = reads_eachⁱ is
  reads (cast t e) = reads e
  reads (when on c e) = c ∷ reads e
  reads (merge c t f) = c ∷ reads t ++ reads f
  reads (iterate k f es) = reads_each es
  reads (iterate_from k f s es) = reads s ++ reads_each es

  pub reads_each : Exprs → List Name
  reads_each []ᵉ = []
  reads_each (e ∷ᵉ es) = reads e ++ reads_each es

  pub reads_eachⁱ : Inits → List Name
  reads_eachⁱ []ⁱ = []
  reads_eachⁱ (init x e is) = reads e ++ reads_eachⁱ is

-- the names on left-hand sides, and the names read by right-hand sides
unfoldable pub defined : List Equation → List Name
defined [] = []
defined (q ∷ qs) = q.lhs ++ defined qs

unfoldable pub read_in : List Equation → List Name
read_in [] = []
read_in (q ∷ qs) = reads q.rhs ++ read_in qs

unfoldable pub read_by : Name → List Equation → List Name
read_by a [] = []
read_by a (q ∷ qs) = (if a among q.lhs then reads q.rhs else []) ++ read_by a qs

-- the names that a has an edge to, in byte order: `deps`, lib.rs 1491
unfoldable pub successors : List Equation → Name → List Name
successors qs a = set_of (read_by a qs)

-- The Rust reads the initial side of an arrow and not its body: it takes an expression for the one in which each arrow is its initial side.
unfoldable mutual
  pub initial_sides : Expr → Expr
  initial_sides (const l w) = const l w
  initial_sides (var x) = var x
  initial_sides (unary o e) = unary o (initial_sides e)
  initial_sides (binary o l r) = binary o (initial_sides l) (initial_sides r)
  initial_sides (ite c t e) = ite (initial_sides c) (initial_sides t) (initial_sides e)
  initial_sides (pre e) = pre (initial_sides e)
  initial_sides (arrow i b) = initial_sides i
  initial_sides (call f es) = call f (initial_sides_each es)
  initial_sides (field x e) = field x (initial_sides e)
  initial_sides (index b i) = index (initial_sides b) (initial_sides i)
  initial_sides (tuple es) = tuple (initial_sides_each es)
  initial_sides (array es) = array (initial_sides_each es)
  initial_sides (struct n is) = struct n (initial_sides_eachⁱ is)
  initial_sides (cast t e) = cast t (initial_sides e)
  initial_sides (when on c e) = when on c (initial_sides e)
  initial_sides (merge c t f) = merge c (initial_sides t) (initial_sides f)
  initial_sides (iterate k f es) = iterate k f (initial_sides_each es)
  initial_sides (iterate_from k f s es) = iterate_from k f (initial_sides s) (initial_sides_each es)

  pub initial_sides_each : Exprs → Exprs
  initial_sides_each []ᵉ = []ᵉ
  initial_sides_each (e ∷ᵉ es) = initial_sides e ∷ᵉ initial_sides_each es

  pub initial_sides_eachⁱ : Inits → Inits
  initial_sides_eachⁱ []ⁱ = []ⁱ
  initial_sides_eachⁱ (init x e is) = init x (initial_sides e) (initial_sides_eachⁱ is)

-- `collect_immediate_deps`, lib.rs 1534, as the Rust has it: names in the body of an arrow are not read
unfoldable pub rust_reads : Expr → List Name
rust_reads e = reads (initial_sides e)

-- the equation that the Rust takes an equation for, and equations whose graph is the one that it makes
unfoldable pub rust_equation : Equation → Equation
rust_equation q = record { lhs = q.lhs; rhs = initial_sides q.rhs }

unfoldable pub rust_equations : List Equation → List Equation
rust_equations qs = map rust_equation qs
