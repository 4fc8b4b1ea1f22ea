-- The grammar of the records as one table of kinds, the reader of trees, and the flattening of trees to records: document 01, 'Records,
-- in order of writing', refusal 5.
-- Assumes nothing: these are definitions.
use Rattle.std.specs.Prelude.{ℕ, zero, suc, Bool, true, false, List, [], ◌∷◌, ◌++◌, map, eqb, length, replicate}
use Rattle.std.proofs.Math.Option.{Option, none, some}
use Rattle.lustre.specs.Name.{Name}
use Rattle.lustre.specs.Records.{Rec}
use Rattle.lustre.specs.Types.{Ty, basic, Array, Named, Tuple}
use Rattle.lustre.specs.Expr.{Expr, Exprs, Inits, Literal, UnaryOp, BinOp, IterKind}
use Rattle.lustre.specs.Expr.{const, var, unary, binary, ite, pre, arrow, call, field, index, tuple, array, struct, cast, when, merge, iterate, iterate-from, []ᵉ, ◌∷ᵉ◌, []ⁱ, init}
use Rattle.lustre.specs.Expr.{bool, int, float, char, Not, Neg, And, Or, Xor, Implies, Eq, Neq, Lt, Le, Gt, Ge, Add, Sub, Mul, Div, Mod, BitAnd, BitOr, BitXor, Shl, Shr, Map, Fold}
use Rattle.lustre.specs.Project.{Port, Decl, Alias, Record, Enum, Constant, NodeKind, Function, Operator, Imported, Equation, Node, Package, Project}

-- the kinds that a tree's own alternatives are written by
abbrev pub literal-kind : Literal → ℕ
literal-kind bool = 40
literal-kind int = 41
literal-kind float = 42
literal-kind char = 43

abbrev pub unary-kind : UnaryOp → ℕ
unary-kind Not = 45
unary-kind Neg = 46

abbrev pub op-kind : BinOp → ℕ
op-kind And = 47
op-kind Or = 48
op-kind Xor = 49
op-kind Implies = 50
op-kind Eq = 51
op-kind Neq = 52
op-kind Lt = 53
op-kind Le = 54
op-kind Gt = 55
op-kind Ge = 56
op-kind Add = 57
op-kind Sub = 58
op-kind Mul = 59
op-kind Div = 60
op-kind Mod = 61
op-kind BitAnd = 62
op-kind BitOr = 63
op-kind BitXor = 64
op-kind Shl = 65
op-kind Shr = 66

abbrev pub when-kind : Bool → ℕ
when-kind true = 77
when-kind false = 78

abbrev pub iterate-kind : IterKind → ℕ
iterate-kind Map = 80
iterate-kind Fold = 82

abbrev pub iterate-from-kind : IterKind → ℕ
iterate-from-kind Map = 81
iterate-from-kind Fold = 83

abbrev pub node-kind : NodeKind → ℕ
node-kind Function = 10
node-kind Operator = 11
node-kind Imported = 12

-- a field value of a struct, kind 84
pub record FieldValue : Type 0 where
  pub label : Name
  pub value : Expr

-- what a record may be the start of
pub data Sort : Type 0 where
  a-project a-package a-declaration a-constant a-node a-port a-name an-equation a-type an-expression a-field-value : Sort

-- a class of parts: one of a sort, or a list record with as many of a sort as its word says
pub data Class : Type 0 where
  one : Sort → Class
  list : Sort → Class

abbrev pub Single : Sort → Type 0
Single a-project = Project
Single a-package = Package
Single a-declaration = Decl
Single a-constant = Constant
Single a-node = Node
Single a-port = Port
Single a-name = Name
Single an-equation = Equation
Single a-type = Ty
Single an-expression = Expr
Single a-field-value = FieldValue

abbrev pub Tree : Class → Type 0
Tree (one s) = Single s
Tree (list s) = List (Single s)

abbrev pub Trees : List Class → Type 0
Trees [] = Unit {0}
Trees (c ∷ cs) = Tree c × Trees cs

-- what follows a record: fixed parts, or as many parts of one class as its word says
pub data Shape : Type 0 where
  parts : List Class → Shape
  each : Class → Shape

abbrev pub follow : Shape → ℕ → List Class
follow (parts cs) n = cs
follow (each c) n = replicate n c

-- a kind of record: its number, what follows it, and the tree that it makes of its word, its name and what follows
pub record Entry (c : Class) : Type 0 where
  pub kind : ℕ
  pub shape : Shape
  pub make : (n : ℕ) → Name → Trees (follow shape n) → Tree c

unfoldable pub gather : (s : Sort) (n : ℕ) → Trees (replicate n (one s)) → List (Single s)
gather s zero v = []
gather s (suc n) v = v.0 ∷ gather s n v.1

unfoldable pub exprs : List Expr → Exprs
exprs [] = []ᵉ
exprs (e ∷ es) = e ∷ᵉ exprs es

unfoldable pub inits : List FieldValue → Inits
inits [] = []ⁱ
inits (f ∷ fs) = init f.label f.value (inits fs)

-- one, two or three expressions
abbrev pub e1 : List Class
e1 = one an-expression ∷ []

abbrev pub e2 : List Class
e2 = one an-expression ∷ e1

abbrev pub e3 : List Class
e3 = one an-expression ∷ e2

abbrev pub basic-entry : ℕ → Entry (one a-type)
basic-entry k = record { kind = k; shape = parts []; make = λ n t v. basic k }

abbrev pub literal-entry : Literal → Entry (one an-expression)
literal-entry l = record { kind = literal-kind l; shape = parts []; make = λ n t v. const l n }

abbrev pub unary-entry : UnaryOp → Entry (one an-expression)
unary-entry o = record { kind = unary-kind o; shape = parts e1; make = λ n t v. unary o v.0 }

abbrev pub op-entry : BinOp → Entry (one an-expression)
op-entry o = record { kind = op-kind o; shape = parts e2; make = λ n t v. binary o v.0 v.1.0 }

abbrev pub when-entry : Bool → Entry (one an-expression)
when-entry on = record { kind = when-kind on; shape = parts e1; make = λ n t v. when on t v.0 }

abbrev pub iterate-entry : IterKind → Entry (one an-expression)
iterate-entry k = record { kind = iterate-kind k; shape = parts (list an-expression ∷ []); make = λ n t v. iterate k t (exprs v.0) }

abbrev pub iterate-from-entry : IterKind → Entry (one an-expression)
iterate-from-entry k = record { kind = iterate-from-kind k; shape = parts (one an-expression ∷ list an-expression ∷ []); make = λ n t v. iterate-from k t v.0 (exprs v.1.0) }

abbrev pub node-entry : NodeKind → Entry (one a-node)
node-entry k = record {
  kind = node-kind k;
  shape = parts (list a-port ∷ list a-port ∷ list a-port ∷ list an-equation ∷ list a-name ∷ []);
  make = λ n t v. record { name = t; kind = k; inputs = v.0; outputs = v.1.0; locals = v.1.1.0; equations = v.1.1.1.0; probes = v.1.1.1.1.0 };
}

-- the basic types, Bool to Char
abbrev pub basic-kinds : List ℕ
basic-kinds = 20 ∷ 21 ∷ 22 ∷ 23 ∷ 24 ∷ 25 ∷ 26 ∷ 27 ∷ 28 ∷ 29 ∷ 30 ∷ 31 ∷ []

abbrev pub operators : List BinOp
operators = And ∷ Or ∷ Xor ∷ Implies ∷ Eq ∷ Neq ∷ Lt ∷ Le ∷ Gt ∷ Ge ∷ Add ∷ Sub ∷ Mul ∷ Div ∷ Mod ∷ BitAnd ∷ BitOr ∷ BitXor ∷ Shl ∷ Shr ∷ []

-- the table
unfoldable pub entries : (c : Class) → List (Entry c)
entries (list s) = record { kind = 3; shape = each (one s); make = λ n t v. gather s n v } ∷ []
entries (one a-project) = record { kind = 1; shape = each (one a-package); make = λ n t v. gather a-package n v } ∷ []
entries (one a-package) = record {
  kind = 2;
  shape = parts (list a-declaration ∷ list a-constant ∷ list a-node ∷ []);
  make = λ n t v. record { name = t; types = v.0; constants = v.1.0; nodes = v.1.1.0 };
} ∷ []
entries (one a-declaration) =
    record { kind = 4; shape = parts (one a-type ∷ []); make = λ n t v. Alias t v.0 } ∷
    record { kind = 5; shape = parts (list a-port ∷ []); make = λ n t v. Record t v.0 } ∷
    record { kind = 6; shape = parts (list a-name ∷ []); make = λ n t v. Enum t v.0 } ∷
    []
entries (one a-constant) = record { kind = 9; shape = parts (one a-type ∷ one an-expression ∷ []); make = λ n t v. record { name = t; type = v.0; value = v.1.0 } } ∷ []
entries (one a-node) = node-entry Function ∷ node-entry Operator ∷ node-entry Imported ∷ []
entries (one a-port) = record { kind = 7; shape = parts (one a-type ∷ []); make = λ n t v. (t, v.0) } ∷ []
entries (one a-name) = record { kind = 8; shape = parts []; make = λ n t v. t } ∷ []
entries (one an-equation) = record { kind = 13; shape = parts (list a-name ∷ one an-expression ∷ []); make = λ n t v. record { lhs = v.0; rhs = v.1.0 } } ∷ []
entries (one a-type) = map basic-entry basic-kinds ++
    (record { kind = 32; shape = parts (one a-type ∷ []); make = λ n t v. Array n v.0 } ∷
    record { kind = 33; shape = parts []; make = λ n t v. Named t } ∷
    [])
entries (one an-expression) =
    literal-entry bool ∷ literal-entry int ∷ literal-entry float ∷ literal-entry char ∷
    record { kind = 44; shape = parts []; make = λ n t v. var t } ∷
    unary-entry Not ∷ unary-entry Neg ∷ (map op-entry operators ++ (
    record { kind = 67; shape = parts e3; make = λ n t v. ite v.0 v.1.0 v.1.1.0 } ∷
    record { kind = 68; shape = parts e1; make = λ n t v. pre v.0 } ∷
    record { kind = 69; shape = parts e2; make = λ n t v. arrow v.0 v.1.0 } ∷
    record { kind = 70; shape = parts (list an-expression ∷ []); make = λ n t v. call t (exprs v.0) } ∷
    record { kind = 71; shape = parts e1; make = λ n t v. field t v.0 } ∷
    record { kind = 72; shape = parts e2; make = λ n t v. index v.0 v.1.0 } ∷
    record { kind = 73; shape = each (one an-expression); make = λ n t v. tuple (exprs (gather an-expression n v)) } ∷
    record { kind = 74; shape = each (one an-expression); make = λ n t v. array (exprs (gather an-expression n v)) } ∷
    record { kind = 75; shape = parts (list a-field-value ∷ []); make = λ n t v. struct t (inits v.0) } ∷
    record { kind = 76; shape = parts (one a-type ∷ one an-expression ∷ []); make = λ n t v. cast v.0 v.1.0 } ∷
    when-entry true ∷ when-entry false ∷
    record { kind = 79; shape = parts e2; make = λ n t v. merge t v.0 v.1.0 } ∷
    iterate-entry Map ∷ iterate-from-entry Map ∷ iterate-entry Fold ∷ iterate-from-entry Fold ∷
    []))
entries (one a-field-value) = record { kind = 84; shape = parts e1; make = λ n t v. record { label = t; value = v.0 } } ∷ []

abbrev pub choose : {A : Type 0} → Bool → A → Option A → Option A
choose true a o = some a
choose false a o = o

unfoldable pub entry : {c : Class} → ℕ → List (Entry c) → Option (Entry c)
entry k [] = none
entry k (e ∷ es) = choose (eqb k e.kind) e (entry k es)

-- the trees of the first and of the last classes
unfoldable pub front : (cs ds : List Class) → Trees (cs ++ ds) → Trees cs
front [] ds v = tt
front (c ∷ cs) ds v = (v.0, front cs ds v.1)

unfoldable pub back : (cs ds : List Class) → Trees (cs ++ ds) → Trees ds
back [] ds v = v
back (c ∷ cs) ds v = back cs ds v.1

-- what was read and the records left, or the records from the first that cannot stand where it is
pub data Got (A : Type 0) : Type 0 where
  got : A → List Rec → Got A
  stuck : List Rec → Got A

abbrev pub at_entry : {A B : Type 0} → List Rec → Option A → (A → Got B) → Got B
at_entry rs none f = stuck rs
at_entry rs (some a) f = f a

-- reads a tree of each class, one after the other, and hands them to f
unfoldable pub read : {A : Type 0} (cs : List Class) → (Trees cs → A) → List Rec → Got A
read [] f [] = got (f tt) []
read (c ∷ cs) f [] = stuck []
read [] f (r ∷ rs) = got (f tt) (r ∷ rs)
read (c ∷ cs) f (r ∷ rs) = at_entry (r ∷ rs) (entry r.kind (entries c))
    (λ e. read (follow e.shape r.number ++ cs)
    (λ v. f (e.make r.number r.text (front (follow e.shape r.number) cs v), back (follow e.shape r.number) cs v)) rs)

unfoldable pub read-project : List Rec → Got Project
read-project rs = read (one a-project ∷ []) (λ v. v.0) rs

-- a project and nothing behind it; else the records from the first that cannot stand or is left over
unfoldable pub whole : Got Project → Got Project
whole (got P []) = got P []
whole (got P (r ∷ rs)) = stuck (r ∷ rs)
whole (stuck rs) = stuck rs

-- The records of a tree, before those that follow it.
abbrev pub plain-rec : ℕ → Rec
plain-rec k = record { kind = k; number = 0; text = [] }

abbrev pub numbered-rec : ℕ → ℕ → Rec
numbered-rec k n = record { kind = k; number = n; text = [] }

abbrev pub named-rec : ℕ → Name → Rec
named-rec k t = record { kind = k; number = 0; text = t }

unfoldable pub count : Exprs → ℕ
count []ᵉ = 0
count (e ∷ᵉ es) = suc (count es)

unfoldable pub countⁱ : Inits → ℕ
countⁱ []ⁱ = 0
countⁱ (init x e is) = suc (countⁱ is)

-- no record has kind 34, and no tree that is read has a tuple for a type
unfoldable pub flat-type : Ty → List Rec → List Rec
flat-type (basic b) k = plain-rec b ∷ k
flat-type (Array n t) k = numbered-rec 32 n ∷ flat-type t k
flat-type (Named x) k = named-rec 33 x ∷ k
flat-type (Tuple n) k = numbered-rec 34 n ∷ k

unfoldable mutual
  pub flat : Expr → List Rec → List Rec
  flat (const l w) k = numbered-rec (literal-kind l) w ∷ k
  flat (var x) k = named-rec 44 x ∷ k
  flat (unary o e) k = plain-rec (unary-kind o) ∷ flat e k
  flat (binary o a b) k = plain-rec (op-kind o) ∷ flat a (flat b k)
  flat (ite c a b) k = plain-rec 67 ∷ flat c (flat a (flat b k))
  flat (pre e) k = plain-rec 68 ∷ flat e k
  flat (arrow a b) k = plain-rec 69 ∷ flat a (flat b k)
  flat (call f es) k = named-rec 70 f ∷ numbered-rec 3 (count es) ∷ flats es k
  flat (field x e) k = named-rec 71 x ∷ flat e k
  flat (index a b) k = plain-rec 72 ∷ flat a (flat b k)
  flat (tuple es) k = numbered-rec 73 (count es) ∷ flats es k
  flat (array es) k = numbered-rec 74 (count es) ∷ flats es k
  flat (struct x is) k = named-rec 75 x ∷ numbered-rec 3 (countⁱ is) ∷ flatsⁱ is k
  flat (cast t e) k = plain-rec 76 ∷ flat-type t (flat e k)
  flat (when on c e) k = named-rec (when-kind on) c ∷ flat e k
  flat (merge c a b) k = named-rec 79 c ∷ flat a (flat b k)
  flat (iterate i f es) k = named-rec (iterate-kind i) f ∷ numbered-rec 3 (count es) ∷ flats es k
  flat (iterate-from i f s es) k = named-rec (iterate-from-kind i) f ∷ flat s (numbered-rec 3 (count es) ∷ flats es k)

  pub flats : Exprs → List Rec → List Rec
  flats []ᵉ k = k
  flats (e ∷ᵉ es) k = flat e (flats es k)

  pub flatsⁱ : Inits → List Rec → List Rec
  flatsⁱ []ⁱ k = k
  flatsⁱ (init x e is) k = named-rec 84 x ∷ flat e (flatsⁱ is k)

unfoldable pub each_of : {X : Type 0} → (X → List Rec → List Rec) → List X → List Rec → List Rec
each_of f [] k = k
each_of f (x ∷ xs) k = f x (each_of f xs k)

abbrev pub list_of : {X : Type 0} → (X → List Rec → List Rec) → List X → List Rec → List Rec
list_of f xs k = numbered-rec 3 (length xs) ∷ each_of f xs k

abbrev pub flat-field-value : FieldValue → List Rec → List Rec
flat-field-value f k = named-rec 84 f.label ∷ flat f.value k

abbrev pub flat-name : Name → List Rec → List Rec
flat-name x k = named-rec 8 x ∷ k

abbrev pub flat-port : Port → List Rec → List Rec
flat-port p k = named-rec 7 p.0 ∷ flat-type p.1 k

unfoldable pub flat-decl : Decl → List Rec → List Rec
flat-decl (Alias x t) k = named-rec 4 x ∷ flat-type t k
flat-decl (Record x ps) k = named-rec 5 x ∷ list_of flat-port ps k
flat-decl (Enum x vs) k = named-rec 6 x ∷ list_of flat-name vs k

abbrev pub flat-constant : Constant → List Rec → List Rec
flat-constant c k = named-rec 9 c.name ∷ flat-type c.type (flat c.value k)

abbrev pub flat-equation : Equation → List Rec → List Rec
flat-equation q k = plain-rec 13 ∷ list_of flat-name q.lhs (flat q.rhs k)

abbrev pub flat-node : Node → List Rec → List Rec
flat-node n k = named-rec (node-kind n.kind) n.name
    ∷ list_of flat-port n.inputs (list_of flat-port n.outputs (list_of flat-port n.locals
    (list_of flat-equation n.equations (list_of flat-name n.probes k))))

abbrev pub flat-package : Package → List Rec → List Rec
flat-package p k = named-rec 2 p.name ∷ list_of flat-decl p.types (list_of flat-constant p.constants (list_of flat-node p.nodes k))

abbrev pub flat-project : Project → List Rec → List Rec
flat-project ps k = numbered-rec 1 (length ps) ∷ each_of flat-package ps k

abbrev pub flat-one : (s : Sort) → Single s → List Rec → List Rec
flat-one a-project v k = flat-project v k
flat-one a-package v k = flat-package v k
flat-one a-declaration v k = flat-decl v k
flat-one a-constant v k = flat-constant v k
flat-one a-node v k = flat-node v k
flat-one a-port v k = flat-port v k
flat-one a-name v k = flat-name v k
flat-one an-equation v k = flat-equation v k
flat-one a-type v k = flat-type v k
flat-one an-expression v k = flat v k
flat-one a-field-value v k = flat-field-value v k

abbrev pub flat-part : (c : Class) → Tree c → List Rec → List Rec
flat-part (one s) v k = flat-one s v k
flat-part (list s) v k = list_of (flat-one s) v k

unfoldable pub flat-parts : (cs : List Class) → Trees cs → List Rec → List Rec
flat-parts [] v k = k
flat-parts (c ∷ cs) v k = flat-part c v.0 (flat-parts cs v.1 k)
