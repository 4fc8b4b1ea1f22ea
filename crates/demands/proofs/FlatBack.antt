-- What is read is a tree that records can write, and it flattens to the records read. `made` is the induction on what is read.
-- Assumes nothing.
use mathlib.Core.Path.{◌≡◌, refl, ap, ap₂, sym, subst, ◌∙◌}
use mathlib.Core.Bool.{Bool, true, false}
use mathlib.Core.Option.{Option, none, some}
use mathlib.Core.List.{List, [], ◌∷◌, ◌++◌, map}
use Prim.Native.Nat.{ℕ, zero, suc}
use lib.ListN.{length, replicate, drop}
use lib.Dec.{eqb}
use native.Mathlib.Omega.{arith}
use borrow.Author.Tests.{eqb-true}
use Rattle.lustre.specs.Name.{Name, mem}
use Rattle.lustre.specs.Records.{Rec, no_word, word_classes, class_in, word_class, spell_as}
use Rattle.lustre.specs.Expr.{Expr, BinOp}
use Rattle.lustre.specs.Grammar.{Sort, Class, one, list, Tree, Trees, FieldValue, follow, Entry, gather, exprs, inits, entries, entry, choose, front, back, got, at_entry, read}
use Rattle.lustre.specs.Grammar.{a_project, a_package, a_declaration, a_constant, a_node, a_port, a_name, an_equation, a_type, an_expression, a_field_value}
use Rattle.lustre.specs.Grammar.{op_kind, basic_entry, op_entry, basic_kinds, operators}
use Rattle.lustre.specs.Grammar.{numbered_rec, named_rec, count, countⁱ, flat_type, flat, flats, flatsⁱ, each_of, list_of, flat_field_value, flat_decl, flat_one, flat_part, flat_parts}
use Rattle.demands.specs.Reading.{Each, WritableType, WritableExpr, WritableExprs, WritableInits, WritableDecl, WritableOne, Writable, Tidy}
use Rattle.demands.proofs.ReadBack.{opened, closed, Next, reads_back}

-- what holds of each entry of a table holds of the one found, and it is the kind's
pub found : {c : Class} (L : Entry c → Type 0) (k : ℕ) (es : List (Entry c)) {e : Entry c} → Each L es → entry k es ≡ some e → (k ≡ e.kind) × L e
unfolding entry
found L k [] l q = let z : ◌≡◌ {A = ℕ} 0 1 = cc in absurd (omega arith)
found {c} L k (x ∷ xs) {e} l q = by (eqb k x.kind) refl (found L k xs l.1) q
  where
    by : {o : Option (Entry c)} (b : Bool) → eqb k x.kind ≡ b → (o ≡ some e → (k ≡ e.kind) × L e) → choose b x o ≡ some e → (k ≡ e.kind) × L e
    by true p h q = let z : x ≡ e = cc in subst (λ (y : Entry c). (k ≡ y.kind) × L y) z (eqb-true k x.kind p, l.0)
    by false p h q = h q

-- Induction on what is read: a property of trees, the records before them and those behind holds of what is read if it holds of no trees,
-- and of a tree and those behind it if it holds of the tree's parts and those behind it.
module _ (P : (cs : List Class) → Trees cs → List Rec → List Rec → Type 0) (stop : (rs : List Rec) → P [] tt rs rs)
    (more : (c : Class) (cs : List Class) (r : Rec) (e : Entry c) → entry r.kind (entries c) ≡ some e → (v : Trees (opened r e cs)) (rs rest : List Rec)
    → P (opened r e cs) v rs rest → P (c ∷ cs) (closed r e cs v) (r ∷ rs) rest) where
  abbrev Made : {A : Type 0} (cs : List Class) → (Trees cs → A) → List Rec → A → List Rec → Type 0
  Made cs f rs a rest = (v : Trees cs) × (a ≡ f v) × P cs v rs rest

  made_none : {A : Type 0} (f : Trees [] → A) (rs : List Rec) (a : A) (rest : List Rec) → got (f tt) rs ≡ got a rest → Made [] f rs a rest
  made_none f rs a rest q = let z : rs ≡ rest = cc in (tt, cc, subst (P [] tt rs) z (stop rs))

  made_more : {A : Type 0} (c : Class) (cs : List Class) (f : Trees (c ∷ cs) → A) (r : Rec) (rs : List Rec) (a : A) (rest : List Rec)
      → ((ds : List Class) (g : Trees ds → A) → read ds g rs ≡ got a rest → Made ds g rs a rest)
      → (o : Option (Entry c)) → entry r.kind (entries c) ≡ o → at_entry (r ∷ rs) o (Next c cs f r rs) ≡ got a rest → Made (c ∷ cs) f (r ∷ rs) a rest
  made_more c cs f r rs a rest ih none p q = let z : ◌≡◌ {A = ℕ} 0 1 = cc in absurd (omega arith)
  made_more c cs f r rs a rest ih (some e) p q =
      let m = ih (opened r e cs) (λ v. f (closed r e cs v)) q in
      (closed r e cs m.0, m.1, more c cs r e p m.0 rs rest m.2)

  pub made : {A : Type 0} (cs : List Class) (f : Trees cs → A) (rs : List Rec) (a : A) (rest : List Rec) → read cs f rs ≡ got a rest → Made cs f rs a rest
  unfolding read
  made [] f [] a rest q = made_none f [] a rest q
  made (c ∷ cs) f [] a rest q = let z : ◌≡◌ {A = ℕ} 0 1 = cc in absurd (omega arith)
  made [] f (r ∷ rs) a rest q = made_none f (r ∷ rs) a rest q
  made (c ∷ cs) f (r ∷ rs) a rest q = made_more c cs f r rs a rest (λ ds g. made ds g rs a rest) (entry r.kind (entries c)) refl q

-- trees that records can write
abbrev pub Writables : (cs : List Class) → Trees cs → Type 0
Writables [] v = Unit {0}
Writables (c ∷ cs) v = Writable c v.0 × Writables cs v.1

-- What the table says of a kind is what the flattening writes, and of parts that records can write it makes a tree that they can write.
abbrev Lawful : (c : Class) → Entry c → Type 0
Lawful c e =
    ((n : ℕ) (t : Name) (v : Trees (follow e.shape n)) (k : List Rec) → flat_part c (e.make n t v) k ≡ spell_as (word_class e.kind) e.kind n t ∷ flat_parts (follow e.shape n) v k)
    × ((n : ℕ) (t : Name) (v : Trees (follow e.shape n)) → Writables (follow e.shape n) v → Writable c (e.make n t v))

-- trees gathered into a list are as many as the record says, flatten as they do apart, and are writable if each is
pub gather_length : (s : Sort) (n : ℕ) (v : Trees (replicate n (one s))) → length (gather s n v) ≡ n
unfolding gather
gather_length s zero v = refl
gather_length s (suc n) v = ap suc (gather_length s n v.1)

gather_flat : (s : Sort) (n : ℕ) (v : Trees (replicate n (one s))) (k : List Rec) → each_of (flat_one s) (gather s n v) k ≡ flat_parts (replicate n (one s)) v k
unfolding gather flat_parts each_of
gather_flat s zero v k = refl
gather_flat s (suc n) v k = ap (flat_one s v.0) (gather_flat s n v.1 k)

gather_writable : (s : Sort) (n : ℕ) (v : Trees (replicate n (one s))) → Writables (replicate n (one s)) v → Each (WritableOne s) (gather s n v)
unfolding gather
gather_writable s zero v w = tt
gather_writable s (suc n) v w = (w.0, gather_writable s n v.1 w.1)

-- a list of expressions and the expressions of a tree have one count and one flattening, and are writable alike
exprs_count : (es : List Expr) → count (exprs es) ≡ length es
unfolding count exprs
exprs_count [] = refl
exprs_count (e ∷ es) = ap suc (exprs_count es)

exprs_flat : (es : List Expr) (k : List Rec) → flats (exprs es) k ≡ each_of flat es k
unfolding flat exprs each_of
exprs_flat [] k = refl
exprs_flat (e ∷ es) k = ap (flat e) (exprs_flat es k)

exprs_writable : (es : List Expr) → Each WritableExpr es → WritableExprs (exprs es)
unfolding WritableExpr exprs
exprs_writable [] w = tt
exprs_writable (e ∷ es) w = (w.0, exprs_writable es w.1)

-- and so have a list of field values and those of a struct
inits_count : (fs : List FieldValue) → countⁱ (inits fs) ≡ length fs
unfolding countⁱ inits
inits_count [] = refl
inits_count (f ∷ fs) = ap suc (inits_count fs)

inits_flat : (fs : List FieldValue) (k : List Rec) → flatsⁱ (inits fs) k ≡ each_of flat_field_value fs k
unfolding flat inits each_of
inits_flat [] k = refl
inits_flat (f ∷ fs) k = ap (flat_field_value f) (inits_flat fs k)

inits_writable : (fs : List FieldValue) → Each (λ (f : FieldValue). WritableExpr f.value) fs → WritableInits (inits fs)
unfolding WritableExpr inits
inits_writable [] w = tt
inits_writable (f ∷ fs) w = (w.0, inits_writable fs w.1)

-- the list record with its expressions
exprs_list : (es : List Expr) (k : List Rec) → numbered_rec 3 (count (exprs es)) ∷ flats (exprs es) k ≡ list_of flat es k
exprs_list es k = rw (exprs_count, exprs_flat)

-- a record that counts its own expressions
gather_exprs : (x n : ℕ) (v : Trees (replicate n (one an_expression))) (k : List Rec)
    → numbered_rec x (count (exprs (gather an_expression n v))) ∷ flats (exprs (gather an_expression n v)) k ≡ numbered_rec x n ∷ flat_parts (replicate n (one an_expression)) v k
gather_exprs x n v k = rw (exprs_count, exprs_flat, gather_length an_expression n v, gather_flat an_expression n v k)

-- what holds of the image of each element and of each of the rest holds of each of all
each_map : {X Y : Type 0} (P : X → Type 0) (L : Y → Type 0) (f : X → Y) → ((x : X) → P x → L (f x)) → (xs : List X) → Each P xs → (ys : List Y) → Each L ys → Each L (map f xs ++ ys)
each_map P L f h [] p ys l = l
each_map P L f h (x ∷ xs) p ys l = (h x p.0, each_map P L f h xs p.1 ys l)

-- a kind without a word
abbrev Plain : ℕ → Type 0
Plain k = word_class k ≡ some no_word

-- a pair, as a table's proof is written: a row and those below it
infixr 10 ◌&◌
abbrev ◌&◌ : {X Y : Type 0} → X → Y → X × Y
x & y = (x, y)

-- each row of the table is lawful
lawful : (c : Class) → Each (Lawful c) (entries c)
unfolding entries flat flat_type flat_decl flat_parts spell_as word_class word_classes class_in mem WritableType WritableExpr WritableDecl
lawful (list s) = (λ n t v k. rw (gather_length s n v, gather_flat s n v k), λ n t v w. gather_writable s n v w) & tt
lawful (one a_project) = (λ n t v k. rw (gather_length a_package n v, gather_flat a_package n v k), λ n t v w. gather_writable a_package n v w) & tt
lawful (one a_package) = (λ n t v k. refl, λ n t v w. (w.0, w.1.0, w.1.1.0)) & tt
lawful (one a_declaration) = (λ n t v k. refl, λ n t v w. w.0) & (λ n t v k. refl, λ n t v w. w.0) & (λ n t v k. refl, λ n t v w. tt) & tt
lawful (one a_constant) = (λ n t v k. refl, λ n t v w. (w.0, w.1.0)) & tt
lawful (one a_node) =
    (λ n t v k. refl, λ n t v w. (w.0, w.1.0, w.1.1.0, w.1.1.1.0)) &
    (λ n t v k. refl, λ n t v w. (w.0, w.1.0, w.1.1.0, w.1.1.1.0)) &
    (λ n t v k. refl, λ n t v w. (w.0, w.1.0, w.1.1.0, w.1.1.1.0)) &
    tt
lawful (one a_port) = (λ n t v k. refl, λ n t v w. w.0) & tt
lawful (one a_name) = (λ n t v k. refl, λ n t v w. tt) & tt
lawful (one an_equation) = (λ n t v k. refl, λ n t v w. w.1.0) & tt
lawful (one a_type) = each_map (λ (b : ℕ). Plain b × (mem eqb b basic_kinds ≡ true)) (Lawful (one a_type)) basic_entry (λ b p. (λ n t v k. rw p.0, λ n t v w. p.1)) basic_kinds
    ((refl, refl) & (refl, refl) & (refl, refl) & (refl, refl) & (refl, refl) & (refl, refl) & (refl, refl) & (refl, refl) & (refl, refl) & (refl, refl) & (refl, refl) & (refl, refl) & tt)
    (drop 12 (entries (one a_type)))
    ((λ n t v k. refl, λ n t v w. w.0) & (λ n t v k. refl, λ n t v w. tt) & tt)
lawful (one an_expression) =
    (λ n t v k. refl, λ n t v w. tt) &
    (λ n t v k. refl, λ n t v w. tt) &
    (λ n t v k. refl, λ n t v w. tt) &
    (λ n t v k. refl, λ n t v w. tt) &
    (λ n t v k. refl, λ n t v w. tt) &
    (λ n t v k. refl, λ n t v w. w.0) &
    (λ n t v k. refl, λ n t v w. w.0) &
    each_map (λ (o : BinOp). Plain (op_kind o)) (Lawful (one an_expression)) op_entry (λ o p. (λ n t v k. rw p, λ n t v w. (w.0, w.1.0))) operators
    (refl & refl & refl & refl & refl & refl & refl & refl & refl & refl & refl & refl & refl & refl & refl & refl & refl & refl & refl & refl & tt)
    (drop 27 (entries (one an_expression)))
    ((λ n t v k. refl, λ n t v w. (w.0, w.1.0, w.1.1.0)) &
    (λ n t v k. refl, λ n t v w. w.0) &
    (λ n t v k. refl, λ n t v w. (w.0, w.1.0)) &
    (λ n t v k. ap (λ (l : List Rec). named_rec 70 t ∷ l) (exprs_list v.0 k), λ n t v w. exprs_writable v.0 w.0) &
    (λ n t v k. refl, λ n t v w. w.0) &
    (λ n t v k. refl, λ n t v w. (w.0, w.1.0)) &
    (λ n t v k. gather_exprs 73 n v k, λ n t v w. exprs_writable (gather an_expression n v) (gather_writable an_expression n v w)) &
    (λ n t v k. gather_exprs 74 n v k, λ n t v w. exprs_writable (gather an_expression n v) (gather_writable an_expression n v w)) &
    (λ n t v k. rw (inits_count v.0, inits_flat v.0 k), λ n t v w. inits_writable v.0 w.0) &
    (λ n t v k. refl, λ n t v w. (w.0, w.1.0)) &
    (λ n t v k. refl, λ n t v w. w.0) &
    (λ n t v k. refl, λ n t v w. w.0) &
    (λ n t v k. refl, λ n t v w. (w.0, w.1.0)) &
    (λ n t v k. ap (λ (l : List Rec). named_rec 80 t ∷ l) (exprs_list v.0 k), λ n t v w. exprs_writable v.0 w.0) &
    (λ n t v k. ap (λ (l : List Rec). named_rec 81 t ∷ flat v.0 l) (exprs_list v.1.0 k), λ n t v w. (w.0, exprs_writable v.1.0 w.1.0)) &
    (λ n t v k. ap (λ (l : List Rec). named_rec 82 t ∷ l) (exprs_list v.0 k), λ n t v w. exprs_writable v.0 w.0) &
    (λ n t v k. ap (λ (l : List Rec). named_rec 83 t ∷ flat v.0 l) (exprs_list v.1.0 k), λ n t v w. (w.0, exprs_writable v.1.0 w.1.0)) &
    tt)
lawful (one a_field_value) = (λ n t v k. refl, λ n t v w. w.0) & tt

-- the parts of a record and the trees behind them, apart
pub parts_append : (cs ds : List Class) (v : Trees (cs ++ ds)) (k : List Rec) → flat_parts (cs ++ ds) v k ≡ flat_parts cs (front cs ds v) (flat_parts ds (back cs ds v) k)
unfolding flat_parts front back
parts_append [] ds v k = refl
parts_append (c ∷ cs) ds v k = ap (flat_part c v.0) (parts_append cs ds v.1 k)

writables_apart : (cs ds : List Class) (v : Trees (cs ++ ds)) → Writables (cs ++ ds) v → Writables cs (front cs ds v) × Writables ds (back cs ds v)
unfolding front back
writables_apart [] ds v w = (tt, w)
writables_apart (c ∷ cs) ds v w = let u = writables_apart cs ds v.1 w.1 in ((w.0, u.0), u.1)

-- What holds of trees read from rs with rest left over: records can write them, they flatten to rs if those are tidy, and what follows them
-- stands behind their own records.
pub record Written (cs : List Class) (v : Trees cs) (rs rest : List Rec) : Type 0 where
  pub writable : Writables cs v
  pub flat : Tidy rs → rs ≡ flat_parts cs v rest
  pub apart : (k : List Rec) → flat_parts cs v k ≡ flat_parts cs v [] ++ k

module _ (c : Class) (cs : List Class) (r : Rec) (e : Entry c) (q : entry r.kind (entries c) ≡ some e) (v : Trees (opened r e cs)) where
  -- the flattening of a tree that is read begins with its record as it is spelled
  first_flat : (k : List Rec) → flat_parts (c ∷ cs) (closed r e cs v) k ≡ spell_as (word_class r.kind) r.kind r.number r.text ∷ flat_parts (opened r e cs) v k
  unfolding flat_parts
  first_flat k =
      let l = found (Lawful c) r.kind (entries c) (lawful c) q in
      l.1.0 r.number r.text (front (follow e.shape r.number) cs v) (flat_parts cs (closed r e cs v).1 k)
      ∙ ap₂ (λ (i : ℕ) (m : List Rec). spell_as (word_class i) i r.number r.text ∷ m) (sym l.0) (sym (parts_append (follow e.shape r.number) cs v k))

  written_more : (rs rest : List Rec) → Written (opened r e cs) v rs rest → Written (c ∷ cs) (closed r e cs v) (r ∷ rs) rest
  written_more rs rest w =
      let l = found (Lawful c) r.kind (entries c) (lawful c) q in
      let u = writables_apart (follow e.shape r.number) cs v w.writable in
      record {
        writable = (l.1.1 r.number r.text (front (follow e.shape r.number) cs v) u.0, u.1);
        flat = λ t. sym (first_flat rest ∙ ap₂ (λ (a : Rec) (m : List Rec). a ∷ m) t.0 (sym (w.flat t.1)));
        apart = λ k. first_flat k ∙ ap (λ (m : List Rec). spell_as (word_class r.kind) r.kind r.number r.text ∷ m) (w.apart k) ∙ ap (λ (m : List Rec). m ++ k) (sym (first_flat []));
      }

-- what is read is so written
pub written : {A : Type 0} (cs : List Class) (f : Trees cs → A) (rs : List Rec) (a : A) (rest : List Rec) → read cs f rs ≡ got a rest → (v : Trees cs) × (a ≡ f v) × Written cs v rs rest
unfolding flat_parts
written cs f rs a rest q = made Written (λ rs. record { writable = tt; flat = λ t. refl; apart = λ k. refl }) written_more cs f rs a rest q

-- a tree's records, and then what follows
pub flat_append : (c : Class) (v : Tree c) (k : List Rec) → Writable c v → flat_part c v k ≡ flat_part c v [] ++ k
unfolding flat_parts
flat_append c v k w =
    let m = written (c ∷ []) (λ x. x.0) (flat_part c v []) v [] (reads_back c v [] w) in
    subst (λ (x : Tree c). flat_part c x k ≡ flat_part c x [] ++ k) (sym m.1) (m.2.apart k)
