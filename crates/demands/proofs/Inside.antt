-- The records of types, expressions, ports, names, equations, declarations and constants start no node and no package, so the walks of
-- Parts go through them one by one: each keeps or drops them all.
-- Assumes nothing.
use Prim.Native.Nat.{ℕ, zero, suc}
use mathlib.Core.Path.{◌≡◌, refl, ap, ◌∙◌}
use mathlib.Core.Bool.{Bool, true, false}
use mathlib.Core.List.{List, [], ◌∷◌}
use lib.Dec.{eqb}
use lib.ListN.{length}
use borrow.Author.Tests.{eqb-true}
use Rattle.lustre.specs.Name.{Name, mem}
use Rattle.lustre.specs.Records.{Rec}
use Rattle.lustre.specs.Types.{Ty, basic, Array, Named, Tuple}
use Rattle.lustre.specs.Expr.{Expr, Exprs, Inits, Literal, UnaryOp, BinOp, IterKind}
use Rattle.lustre.specs.Expr.{const, var, unary, binary, ite, pre, arrow, call, field, index, tuple, array, struct, cast, when, merge, iterate, iterate_from, []ᵉ, ◌∷ᵉ◌, []ⁱ, init}
use Rattle.lustre.specs.Expr.{bool, int, float, char, Not, Neg, And, Or, Xor, Implies, Eq, Neq, Lt, Le, Gt, Ge, Add, Sub, Mul, Div, Mod, BitAnd, BitOr, BitXor, Shl, Shr, Map, Fold}
use Rattle.lustre.specs.Project.{Port, Decl, Alias, Record, Enum, Constant, Equation, Node, Package}
use Rattle.lustre.specs.Grammar.{literal_kind, unary_kind, op_kind, when_kind, iterate_kind, iterate_from_kind, basic_kinds, numbered_rec}
use Rattle.lustre.specs.Grammar.{flat_type, flat, flats, flatsⁱ, each_of, list_of, flat_name, flat_port, flat_decl, flat_constant, flat_equation}
use Rattle.demands.specs.Parts.{View, all, lists, hidden, starts_node, ends_node, up_to_next, node_part, view, within, show, shown}
use Rattle.demands.specs.Reading.{Each, WritableType, WritableExpr, WritableExprs, WritableInits, WritableDecl, WritablePorts, WritableConstant, WritableNode, WritablePackage}

-- F writes records of its own before those that it is given, none of a barred kind
pub data Inner (barred : List ℕ) : (List Rec → List Rec) → Type 0 where
  done : Inner barred (λ k. k)
  next : {F : List Rec → List Rec} (r : Rec) → mem eqb r.kind barred ≡ false → Inner barred F → Inner barred (λ k. r ∷ F k)

-- the kinds of nodes; with them that of packages; with these that of equations; and with these that of lists
abbrev pub nodes_only : List ℕ
nodes_only = 10 ∷ 11 ∷ 12 ∷ []

abbrev pub bounds : List ℕ
bounds = 2 ∷ nodes_only

abbrev pub equations_too : List ℕ
equations_too = 13 ∷ bounds

abbrev pub lists_too : List ℕ
lists_too = 3 ∷ equations_too

infixr 30 ◌then◌
pub ◌then◌ : {bs : List ℕ} {F G : List Rec → List Rec} → Inner bs F → Inner bs G → Inner bs (λ k. F (G k))
done then j = j
next r p i then j = next r p (i then j)

-- what is not in a longer list is not its first and not in the shorter
pub not_mem : (a b : ℕ) (bs : List ℕ) → mem eqb a (b ∷ bs) ≡ false → (eqb a b ≡ false) × (mem eqb a bs ≡ false)
unfolding mem
not_mem a b bs = go (eqb a b) refl
  where
    go : (t : Bool) → eqb a b ≡ t → elim t [ true ↦ true | false ↦ mem eqb a bs ] ≡ false → (eqb a b ≡ false) × (mem eqb a bs ≡ false)
    go true q p = (cc, cc)
    go false q p = (q, p)

pub fewer_barred : {b : ℕ} {bs : List ℕ} {F : List Rec → List Rec} → Inner (b ∷ bs) F → Inner bs F
fewer_barred done = done
fewer_barred {b} {bs} (next r p i) = next r (not_mem r.kind b bs p).1 (fewer_barred i)

within_node : {F : List Rec → List Rec} → Inner lists_too F → Inner bounds F
within_node i = fewer_barred (fewer_barred i)

-- a walk that keeps each record of no barred kind keeps them all, and one that drops each drops them all
pub kept : {bs : List ℕ} (f : List Rec → List Rec) → ((r : Rec) (k : List Rec) → mem eqb r.kind bs ≡ false → f (r ∷ k) ≡ r ∷ f k)
    → {F : List Rec → List Rec} → Inner bs F → (k : List Rec) → f (F k) ≡ F (f k)
kept f h done k = refl
kept f h (next {F} r p i) k = h r (F k) p ∙ ap (λ (x : List Rec). r ∷ x) (kept f h i k)

dropped : {bs : List ℕ} (f : List Rec → List Rec) → ((r : Rec) (k : List Rec) → mem eqb r.kind bs ≡ false → f (r ∷ k) ≡ f k)
    → {F : List Rec → List Rec} → Inner bs F → (k : List Rec) → f (F k) ≡ f k
dropped f h done k = refl
dropped f h (next {F} r p i) k = h r (F k) p ∙ dropped f h i k

-- The walks, each in the kinds that it passes.
pub up_to_next_in : {F : List Rec → List Rec} → Inner bounds F → (k : List Rec) → up_to_next (F k) ≡ F (up_to_next k)
unfolding up_to_next
up_to_next_in = kept up_to_next (λ r k p. rw (p, up_to_next))

passes : (i : ℕ) (r : Rec) (k : List Rec) → starts_node r.kind ≡ false → node_part i (r ∷ k) ≡ node_part i k
unfolding node_part
passes zero r k p = rw (p, node_part)
passes (suc i) r k p = rw (p, node_part)

pub node_part_in : (i : ℕ) {F : List Rec → List Rec} → Inner nodes_only F → (k : List Rec) → node_part i (F k) ≡ node_part i k
node_part_in i = dropped (node_part i) (passes i)

-- at other kinds than a node's or a package's a view changes by lists alone
view_in : (s : View) (k : ℕ) → ends_node k ≡ false → view s k ≡ within s k
unfolding view
view_in s k p = rw ((not_mem k 2 _ p).1, view) (rw (not_mem k 2 _ p).0)

pub hidden_in : {F : List Rec → List Rec} → Inner bounds F → (k : List Rec) → shown hidden (F k) ≡ shown hidden k
unfolding shown show within
hidden_in = dropped (shown hidden) (λ r k p. rw (view_in hidden r.kind p))

pub all_in : {F : List Rec → List Rec} → Inner bounds F → (k : List Rec) → shown all (F k) ≡ F (shown all k)
unfolding shown show within
all_in = kept (shown all) (λ r k p. rw (view_in all r.kind p))

pub lists_in : (n : ℕ) {F : List Rec → List Rec} → Inner lists_too F → (k : List Rec) → shown (lists n) (F k) ≡ F (shown (lists n) k)
unfolding shown show within
lists_in n = kept (shown (lists n)) one
  where
    one : (r : Rec) (k : List Rec) → mem eqb r.kind lists_too ≡ false → shown (lists n) (r ∷ k) ≡ r ∷ shown (lists n) k
    one r k p = let e : within (lists n) r.kind ≡ lists n = rw ((not_mem r.kind 3 _ p).0, within) in rw (view_in (lists n) r.kind (not_mem r.kind 13 _ (not_mem r.kind 3 _ p).1).1, e)

-- a basic type's kind is no other kind
differs : (b c : ℕ) → mem eqb b basic_kinds ≡ true → mem eqb c basic_kinds ≡ false → eqb b c ≡ false
differs b c p q = go (eqb b c) refl
  where
    go : (t : Bool) → eqb b c ≡ t → t ≡ false
    go true e = cc (eqb-true b c e)
    go false e = refl

basic_in : (b : ℕ) → mem eqb b basic_kinds ≡ true → mem eqb b lists_too ≡ false
unfolding mem
basic_in b h = rw (differs b 3 h refl, mem, differs b 13 h refl, mem, differs b 2 h refl, mem, differs b 10 h refl, mem, differs b 11 h refl, mem, differs b 12 h refl, mem)

in_type : (t : Ty) → WritableType t → Inner lists_too (flat_type t)
unfolding flat_type WritableType mem
in_type (basic b) h = next _ (basic_in b h) done
in_type (Array n t) h = next _ refl (in_type t h)
in_type (Named x) h = next _ refl done
in_type (Tuple n) h = absurd h

in_literal : (l : Literal) → mem eqb (literal_kind l) equations_too ≡ false
unfolding mem
in_literal = elim [ bool ↦ refl | int ↦ refl | float ↦ refl | char ↦ refl ]

in_unary : (o : UnaryOp) → mem eqb (unary_kind o) equations_too ≡ false
unfolding mem
in_unary = elim [ Not ↦ refl | Neg ↦ refl ]

in_op : (o : BinOp) → mem eqb (op_kind o) equations_too ≡ false
unfolding mem
in_op = elim [
  | And ↦ refl
  | Or ↦ refl
  | Xor ↦ refl
  | Implies ↦ refl
  | Eq ↦ refl
  | Neq ↦ refl
  | Lt ↦ refl
  | Le ↦ refl
  | Gt ↦ refl
  | Ge ↦ refl
  | Add ↦ refl
  | Sub ↦ refl
  | Mul ↦ refl
  | Div ↦ refl
  | Mod ↦ refl
  | BitAnd ↦ refl
  | BitOr ↦ refl
  | BitXor ↦ refl
  | Shl ↦ refl
  | Shr ↦ refl
]

in_when : (b : Bool) → mem eqb (when_kind b) equations_too ≡ false
unfolding mem
in_when = elim [ true ↦ refl | false ↦ refl ]

in_iterate : (i : IterKind) → (mem eqb (iterate_kind i) equations_too ≡ false) × (mem eqb (iterate_from_kind i) equations_too ≡ false)
unfolding mem
in_iterate = elim [ Map ↦ (refl, refl) | Fold ↦ (refl, refl) ]

mutual
  unfolding flat WritableExpr mem

  pub in_expr : (e : Expr) → WritableExpr e → Inner equations_too (flat e)
  in_expr (const l w) h = next _ (in_literal l) done
  in_expr (var x) h = next _ refl done
  in_expr (unary o e) h = next _ (in_unary o) (in_expr e h)
  in_expr (binary o a b) h = next _ (in_op o) (in_expr a h.0 then in_expr b h.1)
  in_expr (ite c a b) h = next _ refl (in_expr c h.0 then in_expr a h.1 then in_expr b h.2)
  in_expr (pre e) h = next _ refl (in_expr e h)
  in_expr (arrow a b) h = next _ refl (in_expr a h.0 then in_expr b h.1)
  in_expr (call f es) h = next _ refl (next _ refl (in_exprs es h))
  in_expr (field x e) h = next _ refl (in_expr e h)
  in_expr (index a b) h = next _ refl (in_expr a h.0 then in_expr b h.1)
  in_expr (tuple es) h = next _ refl (in_exprs es h)
  in_expr (array es) h = next _ refl (in_exprs es h)
  in_expr (struct x is) h = next _ refl (next _ refl (in_inits is h))
  in_expr (cast t e) h = next _ refl (fewer_barred (in_type t h.0) then in_expr e h.1)
  in_expr (when on c e) h = next _ (in_when on) (in_expr e h)
  in_expr (merge c a b) h = next _ refl (in_expr a h.0 then in_expr b h.1)
  in_expr (iterate k f es) h = next _ (in_iterate k).0 (next _ refl (in_exprs es h))
  in_expr (iterate_from k f s es) h = next _ (in_iterate k).1 (in_expr s h.0 then next _ refl (in_exprs es h.1))

  in_exprs : (es : Exprs) → WritableExprs es → Inner equations_too (flats es)
  in_exprs []ᵉ h = done
  in_exprs (e ∷ᵉ es) h = in_expr e h.0 then in_exprs es h.1

  in_inits : (is : Inits) → WritableInits is → Inner equations_too (flatsⁱ is)
  in_inits []ⁱ h = done
  in_inits (init x e is) h = next _ refl (in_expr e h.0 then in_inits is h.1)

module _ {X : Type 0} {bs : List ℕ} (f : X → List Rec → List Rec) (Ok : X → Type 0) (each : (x : X) → Ok x → Inner bs (f x)) where
  in_each : (xs : List X) → Each Ok xs → Inner bs (each_of f xs)
  unfolding each_of
  in_each [] h = done
  in_each (x ∷ xs) h = each x h.0 then in_each xs h.1

pub in_ports : (ps : List Port) → WritablePorts ps → Inner lists_too (each_of flat_port ps)
unfolding mem
in_ports = in_each flat_port (λ p. WritableType p.1) (λ p h. next _ refl (in_type p.1 h))

pub in_names : (xs : List Name) → Inner equations_too (each_of flat_name xs)
unfolding each_of mem
in_names [] = done
in_names (x ∷ xs) = next _ refl (in_names xs)

-- a list is its count and its elements
in_list : {X : Type 0} (f : X → List Rec → List Rec) (xs : List X) → Inner bounds (each_of f xs) → Inner bounds (list_of f xs)
unfolding mem
in_list f xs i = next _ refl i

in_decl : (d : Decl) → WritableDecl d → Inner bounds (flat_decl d)
unfolding flat_decl WritableDecl mem
in_decl (Alias x t) h = next _ refl (within_node (in_type t h))
in_decl (Record x ps) h = next _ refl (in_list flat_port ps (within_node (in_ports ps h)))
in_decl (Enum x vs) h = next _ refl (in_list flat_name vs (fewer_barred (in_names vs)))

in_constant : (c : Constant) → WritableConstant c → Inner bounds (flat_constant c)
unfolding mem
in_constant c h = next _ refl (within_node (in_type c.type h.0) then fewer_barred (in_expr c.value h.1))

in_equation : (q : Equation) → WritableExpr q.rhs → Inner bounds (flat_equation q)
unfolding mem
in_equation q h = next _ refl (in_list flat_name q.lhs (fewer_barred (in_names q.lhs)) then fewer_barred (in_expr q.rhs h))

-- a node's locals, equations and probes
abbrev pub flat_body : Node → List Rec → List Rec
flat_body n k = list_of flat_port n.locals (list_of flat_equation n.equations (list_of flat_name n.probes k))

pub in_body : (n : Node) → WritableNode n → Inner bounds (flat_body n)
in_body n h = in_list flat_port n.locals (within_node (in_ports n.locals h.2))
    then in_list flat_equation n.equations (in_each flat_equation (λ q. WritableExpr q.rhs) in_equation n.equations h.3)
    then in_list flat_name n.probes (fewer_barred (in_names n.probes))

-- a node without its first record
pub in_node : (n : Node) → WritableNode n → Inner bounds (λ k. list_of flat_port n.inputs (list_of flat_port n.outputs (flat_body n k)))
in_node n h = in_list flat_port n.inputs (within_node (in_ports n.inputs h.0))
    then in_list flat_port n.outputs (within_node (in_ports n.outputs h.1)) then in_body n h

-- a package's types and constants, and the number of its nodes
pub in_opening : (p : Package) → WritablePackage p
    → Inner bounds (λ k. list_of flat_decl p.types (list_of flat_constant p.constants (numbered_rec 3 (length p.nodes) ∷ k)))
unfolding mem
in_opening p h = in_list flat_decl p.types (in_each flat_decl WritableDecl in_decl p.types h.0)
    then in_list flat_constant p.constants (in_each flat_constant WritableConstant in_constant p.constants h.1) then next _ refl done
