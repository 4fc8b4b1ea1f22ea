-- How types, expressions and declarations stand in the records at a position, by recursion on the tree: one clause a construct, with the
-- kind of its first record and where its parts begin. Document 01, 'Records, in order of writing'.
-- Assumes nothing: these are definitions.
use Rattle.std.specs.Prelude.{ℕ, ◌+◌, ◌<◌, ◌≡◌, true, List, [], ◌∷◌, eqb, length, get_or}
use Rattle.lustre.specs.Name.{Name, mem}
use Rattle.lustre.specs.Types.{Ty, basic, Array, Named, Tuple, levels}
use Rattle.lustre.specs.Expr.{Expr, Exprs, Inits, const, var, unary, binary, ite, pre, arrow, call, field, index, tuple, array, struct, cast, when, merge, iterate, iterate_from, []ᵉ, ◌∷ᵉ◌, []ⁱ, init, size}
use Rattle.lustre.specs.Project.{Port, Decl, Alias, Record, Enum, Constant, Equation, Node, Package, Project}
use Rattle.lustre.specs.Grammar.{basic_kinds, literal_kind, unary_kind, op_kind, when_kind, iterate_kind, iterate_from_kind, node_kind, count, countⁱ}

-- kinds and words, with a text for each name number
pub record Source : Type 0 where
  pub ks : List ℕ
  pub ws : List ℕ
  pub text : ℕ → Name

abbrev pub source : List ℕ → List ℕ → (ℕ → Name) → Source
source ks ws ρ = record { ks = ks; ws = ws; text = ρ }

abbrev pub word : Source → ℕ → ℕ
word S at = get_or S.ws at 0

-- a record of a kind stands at a position
pub record RecAt (S : Source) (at k : ℕ) : Type 0 where
  pub in_kinds : at < length S.ks
  pub in_words : at < length S.ws
  pub kind : get_or S.ks at 0 ≡ k

-- the word at a position is the number of a name
pub record NameAt (S : Source) (at : ℕ) (x : Name) : Type 0 where
  pub small : word S at < 512
  pub text : S.text (word S at) ≡ x

unfoldable pub TypeAt : Source → Ty → ℕ → Type 0
TypeAt S (basic b) at = RecAt S at b × (mem eqb b basic_kinds ≡ true)
TypeAt S (Array n t) at = RecAt S at 32 × (word S at ≡ n) × (n < 4_294_967_296) × TypeAt S t (at + 1)
TypeAt S (Named x) at = RecAt S at 33 × NameAt S at x
TypeAt S (Tuple n) at = ⊥

unfoldable mutual
  pub ExprAt : Source → Expr → ℕ → Type 0
  ExprAt S (const l w) at = RecAt S at (literal_kind l) × (word S at ≡ w)
  ExprAt S (var x) at = RecAt S at 44 × NameAt S at x
  ExprAt S (unary o e) at = RecAt S at (unary_kind o) × ExprAt S e (at + 1)
  ExprAt S (binary o a b) at = RecAt S at (op_kind o) × ExprAt S a (at + 1) × ExprAt S b (at + 1 + size a)
  ExprAt S (ite c a b) at = RecAt S at 67 × ExprAt S c (at + 1) × ExprAt S a (at + 1 + size c) × ExprAt S b (at + 1 + size c + size a)
  ExprAt S (pre e) at = RecAt S at 68 × ExprAt S e (at + 1)
  ExprAt S (arrow a b) at = RecAt S at 69 × ExprAt S a (at + 1) × ExprAt S b (at + 1 + size a)
  ExprAt S (call f es) at = RecAt S at 70 × NameAt S at f × RecAt S (at + 1) 3 × (word S (at + 1) ≡ count es) × ExprsAt S es (at + 2)
  ExprAt S (field x e) at = RecAt S at 71 × NameAt S at x × ExprAt S e (at + 1)
  ExprAt S (index a b) at = RecAt S at 72 × ExprAt S a (at + 1) × ExprAt S b (at + 1 + size a)
  ExprAt S (tuple es) at = RecAt S at 73 × (word S at ≡ count es) × ExprsAt S es (at + 1)
  ExprAt S (array es) at = RecAt S at 74 × (word S at ≡ count es) × ExprsAt S es (at + 1)
  ExprAt S (struct x is) at = RecAt S at 75 × NameAt S at x × RecAt S (at + 1) 3 × (word S (at + 1) ≡ countⁱ is) × InitsAt S is (at + 2)
  ExprAt S (cast t e) at = RecAt S at 76 × TypeAt S t (at + 1) × ExprAt S e (at + 1 + levels t)
  ExprAt S (when on c e) at = RecAt S at (when_kind on) × NameAt S at c × ExprAt S e (at + 1)
  ExprAt S (merge c a b) at = RecAt S at 79 × NameAt S at c × ExprAt S a (at + 1) × ExprAt S b (at + 1 + size a)
  ExprAt S (iterate k f es) at = RecAt S at (iterate_kind k) × NameAt S at f × RecAt S (at + 1) 3 × (word S (at + 1) ≡ count es) × ExprsAt S es (at + 2)
  ExprAt S (iterate_from k f s es) at =
      RecAt S at (iterate_from_kind k) × NameAt S at f × ExprAt S s (at + 1)
      × RecAt S (at + 1 + size s) 3 × (word S (at + 1 + size s) ≡ count es) × ExprsAt S es (at + 2 + size s)

  pub ExprsAt : Source → Exprs → ℕ → Type 0
  ExprsAt S []ᵉ at = Unit {0}
  ExprsAt S (e ∷ᵉ es) at = ExprAt S e at × ExprsAt S es (at + size e)

  pub InitsAt : Source → Inits → ℕ → Type 0
  InitsAt S []ⁱ at = Unit {0}
  InitsAt S (init x e is) at = RecAt S at 84 × NameAt S at x × ExprAt S e (at + 1) × InitsAt S is (at + 1 + size e)

-- parts one after another, each of a size
unfoldable pub sizes_of : {X : Type 0} → (X → ℕ) → List X → ℕ
sizes_of size_of [] = 0
sizes_of size_of (x ∷ xs) = size_of x + sizes_of size_of xs

unfoldable pub EachAt : {X : Type 0} → (X → ℕ → Type 0) → (X → ℕ) → List X → ℕ → Type 0
EachAt P size_of [] at = Unit {0}
EachAt P size_of (x ∷ xs) at = P x at × EachAt P size_of xs (at + size_of x)

-- a list record, and as many parts as it says
pub record ListAt {X : Type 0} (S : Source) (P : X → ℕ → Type 0) (size_of : X → ℕ) (xs : List X) (at : ℕ) : Type 0 where
  pub head : RecAt S at 3
  pub many : word S at ≡ length xs
  pub items : EachAt P size_of xs (at + 1)

abbrev pub list_size : {X : Type 0} → (X → ℕ) → List X → ℕ
list_size size_of xs = 1 + sizes_of size_of xs

pub record PortAt (S : Source) (p : Port) (at : ℕ) : Type 0 where
  pub head : RecAt S at 7
  pub name : NameAt S at p.0
  pub type : TypeAt S p.1 (at + 1)

abbrev pub port_size : Port → ℕ
port_size p = 1 + levels p.1

abbrev pub PortsAt : Source → List Port → ℕ → Type 0
PortsAt S ps at = ListAt S (PortAt S) port_size ps at

abbrev pub ports_size : List Port → ℕ
ports_size ps = list_size port_size ps

-- a record of kind 8
pub record MentionAt (S : Source) (x : Name) (at : ℕ) : Type 0 where
  pub head : RecAt S at 8
  pub name : NameAt S at x

abbrev pub one_record : Name → ℕ
one_record x = 1

abbrev pub NamesAt : Source → List Name → ℕ → Type 0
NamesAt S xs at = ListAt S (MentionAt S) one_record xs at

abbrev pub names_size : List Name → ℕ
names_size xs = list_size one_record xs

unfoldable pub DeclAt : Source → Decl → ℕ → Type 0
DeclAt S (Alias x t) at = RecAt S at 4 × NameAt S at x × TypeAt S t (at + 1)
DeclAt S (Record x fs) at = RecAt S at 5 × NameAt S at x × PortsAt S fs (at + 1)
DeclAt S (Enum x vs) at = RecAt S at 6 × NameAt S at x × NamesAt S vs (at + 1)

unfoldable pub decl_size : Decl → ℕ
decl_size (Alias x t) = 1 + levels t
decl_size (Record x fs) = 1 + ports_size fs
decl_size (Enum x vs) = 1 + names_size vs

pub record ConstantAt (S : Source) (c : Constant) (at : ℕ) : Type 0 where
  pub head : RecAt S at 9
  pub name : NameAt S at c.name
  pub type : TypeAt S c.type (at + 1)
  pub value : ExprAt S c.value (at + 1 + levels c.type)

abbrev pub constant_size : Constant → ℕ
constant_size c = 1 + levels c.type + size c.value

pub record EquationAt (S : Source) (q : Equation) (at : ℕ) : Type 0 where
  pub head : RecAt S at 13
  pub lhs : NamesAt S q.lhs (at + 1)
  pub rhs : ExprAt S q.rhs (at + 1 + names_size q.lhs)

abbrev pub equation_size : Equation → ℕ
equation_size q = 1 + names_size q.lhs + size q.rhs

-- where a node's lists begin
abbrev pub outputs_from : Node → ℕ → ℕ
outputs_from n at = at + 1 + ports_size n.inputs

abbrev pub locals_from : Node → ℕ → ℕ
locals_from n at = outputs_from n at + ports_size n.outputs

abbrev pub equations_from : Node → ℕ → ℕ
equations_from n at = locals_from n at + ports_size n.locals

abbrev pub probes_from : Node → ℕ → ℕ
probes_from n at = equations_from n at + list_size equation_size n.equations

pub record NodeAt (S : Source) (n : Node) (at : ℕ) : Type 0 where
  pub head : RecAt S at (node_kind n.kind)
  pub name : NameAt S at n.name
  pub inputs : PortsAt S n.inputs (at + 1)
  pub outputs : PortsAt S n.outputs (outputs_from n at)
  pub locals : PortsAt S n.locals (locals_from n at)
  pub equations : ListAt S (EquationAt S) equation_size n.equations (equations_from n at)
  pub probes : NamesAt S n.probes (probes_from n at)

abbrev pub node_size : Node → ℕ
node_size n = 1 + ports_size n.inputs + ports_size n.outputs + ports_size n.locals + list_size equation_size n.equations + names_size n.probes

pub record PackageAt (S : Source) (p : Package) (at : ℕ) : Type 0 where
  pub head : RecAt S at 2
  pub name : NameAt S at p.name
  pub types : ListAt S (DeclAt S) decl_size p.types (at + 1)
  pub constants : ListAt S (ConstantAt S) constant_size p.constants (at + 1 + list_size decl_size p.types)
  pub nodes : ListAt S (NodeAt S) node_size p.nodes (at + 1 + list_size decl_size p.types + list_size constant_size p.constants)

abbrev pub package_size : Package → ℕ
package_size p = 1 + list_size decl_size p.types + list_size constant_size p.constants + list_size node_size p.nodes

pub record ProjectAt (S : Source) (P : Project) (at : ℕ) : Type 0 where
  pub head : RecAt S at 1
  pub many : word S at ≡ length P
  pub packages : EachAt (PackageAt S) package_size P (at + 1)
