-- The tables step by step: none declared, one name more, and ports forgotten.
-- Assumes nothing.
use Rattle.std.specs.Prelude as code
use Rattle.std.specs.Prelude.{None, Some, MatchOption, if◌then◌else◌}
use Rattle.std.specs.Option.{is_some}
use Prim.Native.Nat.{ℕ, suc, ◌+◌, ◌≤◌, ◌<◌}
use native.Mathlib.Omega.{arith}
use mathlib.Core.Path.{◌≡◌, refl, sym, ◌∙◌, ap, subst}
use mathlib.Core.Logic.{⊎_elim}
use mathlib.Core.Bool.{Bool, true, false, not}
use mathlib.Core.List.{List, [], ◌∷◌, ◌++◌, map}
use mathlib.Core.Option.{Option, none, some}
use lib.Dec.{eqb}
use lib.ListN.{length, get_or, set, replicate, length-set, length-replicate, get_or-replicate}
use lib.Seq.{get_or-set_same, get_or-set_other}
use borrow.Author.Tests.{eq-eqb, ne_eqb, eqb-true}
use Rattle.lustre.specs.Name.{Name, ◌is◌, ◌among◌, mem, lookup, ◌or◌}
use Rattle.lustre.specs.Types.{Ty}
use Rattle.lustre.specs.Project.{Port, Heading, port_names}
use Rattle.demands.proofs.Sets.{split, mustnt, mem_eq, mem_ne}
use Rattle.demands.proofs.Orders.{is_test}
use Rattle.loops.proofs.Rows.{same_or}
use Rattle.standing.specs.Standing.{Source}
use Rattle.types.specs.Value.{Naming, Injective}
use Rattle.rules.specs.World.{Typed, Listed, EnumAt, HeadingAt, Found, absent, present, Row}
use Rattle.scope.specs.Tables.{Tables, Forgetting}

-- ---- lists of pairs

-- one entry more
pub lookup_snoc : {A : Type 0} (x y : Name) (l : List (Name × A)) (a : A) → lookup x (l ++ ((y, a) ∷ [])) ≡ (if x is y then some a else lookup x l)
unfolding lookup
lookup_snoc x y [] a = refl
lookup_snoc x y (e ∷ l) a = rw (lookup_snoc x y l a) (go (x is y))
  where
    go : (b : Bool) → ((if b then some a else lookup x l) or (if x is e.0 then some e.1 else none)) ≡ (if b then some a else (lookup x l or (if x is e.0 then some e.1 else none)))
    go true = refl
    go false = refl

-- the entry of the name itself
lookup_same : {A : Type 0} (x : Name) (l : List (Name × A)) (a : A) → lookup x (l ++ ((x, a) ∷ [])) ≡ some a
lookup_same x l a = lookup_snoc x x l a ∙ rw (is_test.self x)

-- and of another
lookup_other : {A : Type 0} (x y : Name) (l : List (Name × A)) (a : A) → (x ≡ y → ⊥) → lookup x (l ++ ((y, a) ∷ [])) ≡ lookup x l
lookup_other x y l a n = lookup_snoc x y l a ∙ rw (mustnt (x is y) (λ e. n (is_test.same x y e)))

-- there is an entry
abbrev there : {A : Type 0} → Option A → Bool
there none = false
there (some a) = true

-- exactly the names of the list have entries
lookup_among : {A : Type 0} (x : Name) (l : List (Name × A)) → there (lookup x l) ≡ (x among map (λ e. e.0) l)
unfolding lookup mem
lookup_among x [] = refl
lookup_among {A} x (e ∷ l) =
    ⊎_elim
    (λ (h : (x is e.0) ≡ true). rw h (first (lookup x l)) ∙ sym (mem_eq ◌is◌ x e.0 (map (λ e. e.0) l) h))
    (λ (h : (x is e.0) ≡ false). rw h (rest (lookup x l)) ∙ lookup_among x l ∙ sym (mem_ne ◌is◌ x e.0 (map (λ e. e.0) l) h))
    (split (x is e.0))
  where
    first : (o : Option A) → there (o or some e.1) ≡ true
    first none = refl
    first (some a) = refl

    rest : (o : Option A) → there (o or none) ≡ there o
    rest none = refl
    rest (some a) = refl

-- an entry of the scope is 0 exactly if the list has none
found_there : {A : Type 0} {P : ℕ → A → Type 0} {e : ℕ} {o : Option A} → Found P e o → eqb e 0 ≡ not (there o)
found_there absent = refl
found_there (present {p} x) = ne_eqb (suc p) 0 (λ h. omega arith)

-- an entry is 0 exactly if the name is not declared
pub found_among : {A : Type 0} {P : ℕ → A → Type 0} {e : ℕ} (x : Name) (l : List (Name × A)) → Found P e (lookup x l) → eqb e 0 ≡ not (x among map (λ e. e.0) l)
found_among x l f = found_there f ∙ ap not (lookup_among x l)

-- ---- one table

-- an entry is 0 exactly where it leads to no declaration
pub free_entry : (r : code.Option ℕ) (e : ℕ) (b : Bool) → MatchOption r (e ≡ 0) (λ p. e ≡ p + 1) → is_some r ≡ not b → eqb e 0 ≡ b
free_entry None e true h s = eq-eqb e 0 h
free_entry None e false h s = cc
free_entry (Some p) e true h s = cc
free_entry (Some p) e false h s = ne_eqb e 0 (λ z. omega arith)

module _ {A : Type 0} (ρ : Naming) (P : ℕ → A → Type 0) where
  -- no name declared
  pub row_zero : (k m : ℕ) → k + 512 ≤ m → Row ρ (replicate m 0) k P (λ x. lookup x [])
  unfolding lookup
  row_zero k m h n b = rw (get_or-replicate {A = ℕ} m (n + k) 0 0 (omega arith)) absent

module _ {A : Type 0} {ρ : Naming} {P : ℕ → A → Type 0} (sc : List ℕ) where
  -- one name more
  pub row_set : (k w p : ℕ) (l : List (Name × A)) (a : A) → Injective ρ → w + k < length sc → P p a → Row ρ sc k P (λ x. lookup x l)
      → Row ρ (set sc (w + k) (p + 1)) k P (λ x. lookup x (l ++ ((ρ w, a) ∷ [])))
  row_set k w p l a inj h there r n b =
      ⊎_elim
      (λ (e : n ≡ w).
      let z : p + 1 ≡ suc p = omega arith in
      subst (λ (m : ℕ). Found P (get_or (set sc (w + k) (p + 1)) (m + k) 0) (lookup (ρ m) (l ++ ((ρ w, a) ∷ [])))) (sym e)
      (rw (get_or-set_same sc (w + k) (p + 1) 0 h, lookup_same (ρ w) l a, z) (present there)))
      (λ (e : n ≡ w → ⊥). rw (get_or-set_other sc (w + k) (n + k) (p + 1) 0 (λ q. e (omega arith)), lookup_other (ρ n) (ρ w) l a (λ q. e (inj n w q))) (r n b))
      (same_or n w)

  -- an entry of another table
  pub row_kept : (k i v : ℕ) (f : Name → Option A) → ((n : ℕ) → n < 512 → n + k ≡ i → ⊥) → Row ρ sc k P f → Row ρ (set sc i v) k P f
  row_kept k i v f h r n b = rw (get_or-set_other sc i (n + k) v 0 (h n b)) (r n b)

-- ---- the six tables

-- nothing declared
pub tables_none : (S : Source) → Tables S [] [] [] [] [] [] (replicate 3072 0)
unfolding lookup
tables_none S = record {
  room = length-replicate {A = ℕ} 3072 0;
  beyond = λ n h. refl;
  alias = row_zero S.text (λ p t. Typed S t (p + 1)) 0 3072 (omega arith);
  fields = row_zero S.text (λ p ps. Listed S ps (p + 1)) 512 3072 (omega arith);
  variant = row_zero S.text (EnumAt S) 1024 3072 (omega arith);
  constant = row_zero S.text (λ p t. Typed S t (p + 1)) 1536 3072 (omega arith);
  node = row_zero S.text (HeadingAt S) 2048 3072 (omega arith);
  port = row_zero S.text (λ p t. Typed S t (p + 1)) 2560 3072 (omega arith);
}

module _ {S : Source} {as' : List (Name × Ty)} {rs : List (Name × List Port)} {vs : List (Name × Name)} {cs : List (Name × Ty)} {ns : List (Name × Heading)} {env : List Port} {sc : List ℕ} where
  -- an alias more
  pub tables_alias : (w p : ℕ) (t : Ty) → Injective S.text → w < 512 → Typed S t (p + 1) → Tables S as' rs vs cs ns env sc → Tables S (as' ++ ((S.text w, t) ∷ [])) rs vs cs ns env (set sc w (p + 1))
  tables_alias w p t inj small here T = let z : w + 0 ≡ w = omega arith in subst (λ (i : ℕ). Tables S (as' ++ ((S.text w, t) ∷ [])) rs vs cs ns env (set sc i (p + 1))) z (record {
    room = length-set sc (w + 0) (p + 1) ∙ T.room;
    beyond = λ n h. lookup_other (S.text n) (S.text w) as' t (λ e. (let q = inj n w e in omega arith)) ∙ T.beyond n h;
    alias = row_set sc 0 w p as' t inj (omega (arith, T.room)) here T.alias;
    fields = row_kept sc 512 (w + 0) (p + 1) (λ x. lookup x rs) (λ n b e. omega arith) T.fields;
    variant = row_kept sc 1024 (w + 0) (p + 1) (λ x. lookup x vs) (λ n b e. omega arith) T.variant;
    constant = row_kept sc 1536 (w + 0) (p + 1) (λ x. lookup x cs) (λ n b e. omega arith) T.constant;
    node = row_kept sc 2048 (w + 0) (p + 1) (λ x. lookup x ns) (λ n b e. omega arith) T.node;
    port = row_kept sc 2560 (w + 0) (p + 1) (λ x. lookup x env) (λ n b e. omega arith) T.port;
  })

  -- a record more
  pub tables_record : (w p : ℕ) (ps : List Port) → Injective S.text → w < 512 → Listed S ps (p + 1) → Tables S as' rs vs cs ns env sc → Tables S as' (rs ++ ((S.text w, ps) ∷ [])) vs cs ns env (set sc (w + 512) (p + 1))
  tables_record w p ps inj small here T = record {
    room = length-set sc (w + 512) (p + 1) ∙ T.room;
    beyond = T.beyond;
    alias = row_kept sc 0 (w + 512) (p + 1) (λ x. lookup x as') (λ n b e. omega arith) T.alias;
    fields = row_set sc 512 w p rs ps inj (omega (arith, T.room)) here T.fields;
    variant = row_kept sc 1024 (w + 512) (p + 1) (λ x. lookup x vs) (λ n b e. omega arith) T.variant;
    constant = row_kept sc 1536 (w + 512) (p + 1) (λ x. lookup x cs) (λ n b e. omega arith) T.constant;
    node = row_kept sc 2048 (w + 512) (p + 1) (λ x. lookup x ns) (λ n b e. omega arith) T.node;
    port = row_kept sc 2560 (w + 512) (p + 1) (λ x. lookup x env) (λ n b e. omega arith) T.port;
  }

  -- a variant more
  pub tables_variant : (w p : ℕ) (x : Name) → Injective S.text → w < 512 → EnumAt S p x → Tables S as' rs vs cs ns env sc → Tables S as' rs (vs ++ ((S.text w, x) ∷ [])) cs ns env (set sc (w + 1024) (p + 1))
  tables_variant w p x inj small here T = record {
    room = length-set sc (w + 1024) (p + 1) ∙ T.room;
    beyond = T.beyond;
    alias = row_kept sc 0 (w + 1024) (p + 1) (λ x. lookup x as') (λ n b e. omega arith) T.alias;
    fields = row_kept sc 512 (w + 1024) (p + 1) (λ x. lookup x rs) (λ n b e. omega arith) T.fields;
    variant = row_set sc 1024 w p vs x inj (omega (arith, T.room)) here T.variant;
    constant = row_kept sc 1536 (w + 1024) (p + 1) (λ x. lookup x cs) (λ n b e. omega arith) T.constant;
    node = row_kept sc 2048 (w + 1024) (p + 1) (λ x. lookup x ns) (λ n b e. omega arith) T.node;
    port = row_kept sc 2560 (w + 1024) (p + 1) (λ x. lookup x env) (λ n b e. omega arith) T.port;
  }

  -- a constant more
  pub tables_constant : (w p : ℕ) (t : Ty) → Injective S.text → w < 512 → Typed S t (p + 1) → Tables S as' rs vs cs ns env sc → Tables S as' rs vs (cs ++ ((S.text w, t) ∷ [])) ns env (set sc (w + 1536) (p + 1))
  tables_constant w p t inj small here T = record {
    room = length-set sc (w + 1536) (p + 1) ∙ T.room;
    beyond = T.beyond;
    alias = row_kept sc 0 (w + 1536) (p + 1) (λ x. lookup x as') (λ n b e. omega arith) T.alias;
    fields = row_kept sc 512 (w + 1536) (p + 1) (λ x. lookup x rs) (λ n b e. omega arith) T.fields;
    variant = row_kept sc 1024 (w + 1536) (p + 1) (λ x. lookup x vs) (λ n b e. omega arith) T.variant;
    constant = row_set sc 1536 w p cs t inj (omega (arith, T.room)) here T.constant;
    node = row_kept sc 2048 (w + 1536) (p + 1) (λ x. lookup x ns) (λ n b e. omega arith) T.node;
    port = row_kept sc 2560 (w + 1536) (p + 1) (λ x. lookup x env) (λ n b e. omega arith) T.port;
  }

  -- a node more
  pub tables_node : (w p : ℕ) (h : Heading) → Injective S.text → w < 512 → HeadingAt S p h → Tables S as' rs vs cs ns env sc → Tables S as' rs vs cs (ns ++ ((S.text w, h) ∷ [])) env (set sc (w + 2048) (p + 1))
  tables_node w p h inj small here T = record {
    room = length-set sc (w + 2048) (p + 1) ∙ T.room;
    beyond = T.beyond;
    alias = row_kept sc 0 (w + 2048) (p + 1) (λ x. lookup x as') (λ n b e. omega arith) T.alias;
    fields = row_kept sc 512 (w + 2048) (p + 1) (λ x. lookup x rs) (λ n b e. omega arith) T.fields;
    variant = row_kept sc 1024 (w + 2048) (p + 1) (λ x. lookup x vs) (λ n b e. omega arith) T.variant;
    constant = row_kept sc 1536 (w + 2048) (p + 1) (λ x. lookup x cs) (λ n b e. omega arith) T.constant;
    node = row_set sc 2048 w p ns h inj (omega (arith, T.room)) here T.node;
    port = row_kept sc 2560 (w + 2048) (p + 1) (λ x. lookup x env) (λ n b e. omega arith) T.port;
  }

  -- a port or local more
  pub tables_port : (w p : ℕ) (t : Ty) → Injective S.text → w < 512 → Typed S t (p + 1) → Tables S as' rs vs cs ns env sc → Tables S as' rs vs cs ns (env ++ ((S.text w, t) ∷ [])) (set sc (w + 2560) (p + 1))
  tables_port w p t inj small here T = record {
    room = length-set sc (w + 2560) (p + 1) ∙ T.room;
    beyond = T.beyond;
    alias = row_kept sc 0 (w + 2560) (p + 1) (λ x. lookup x as') (λ n b e. omega arith) T.alias;
    fields = row_kept sc 512 (w + 2560) (p + 1) (λ x. lookup x rs) (λ n b e. omega arith) T.fields;
    variant = row_kept sc 1024 (w + 2560) (p + 1) (λ x. lookup x vs) (λ n b e. omega arith) T.variant;
    constant = row_kept sc 1536 (w + 2560) (p + 1) (λ x. lookup x cs) (λ n b e. omega arith) T.constant;
    node = row_kept sc 2048 (w + 2560) (p + 1) (λ x. lookup x ns) (λ n b e. omega arith) T.node;
    port = row_set sc 2560 w p env t inj (omega (arith, T.room)) here T.port;
  }

-- ---- ports forgotten

-- the names of ports, as pairs
pub names_pairs : (env : List Port) → map (λ e. e.0) env ≡ port_names env
unfolding port_names
names_pairs [] = refl
names_pairs (p ∷ ps) = ap (λ (l : List Name). p.0 ∷ l) (names_pairs ps)

module _ {S : Source} {as' : List (Name × Ty)} {rs : List (Name × List Port)} {vs : List (Name × Name)} {cs : List (Name × Ty)} {ns : List (Name × Heading)} {sc : List ℕ} where
  -- all ports stand
  pub forgetting_start : {env : List Port} → Tables S as' rs vs cs ns env sc → Forgetting S as' rs vs cs ns (port_names env) sc
  forgetting_start {env} T = record {
    room = T.room;
    beyond = T.beyond;
    alias = T.alias;
    fields = T.fields;
    variant = T.variant;
    constant = T.constant;
    node = T.node;
    port = λ n b h. eqb-true (get_or sc (n + 2560) 0) 0 (found_among (S.text n) env (T.port n b) ∙ rw (names_pairs env, h));
  }

  -- one more is forgotten
  pub forgetting_one : {xs : List Name} (w : ℕ) → Injective S.text → w < 512 → Forgetting S as' rs vs cs ns (S.text w ∷ xs) sc → Forgetting S as' rs vs cs ns xs (set sc (w + 2560) 0)
  forgetting_one {xs} w inj small T = record {
    room = length-set sc (w + 2560) 0 ∙ T.room;
    beyond = T.beyond;
    alias = row_kept sc 0 (w + 2560) 0 (λ x. lookup x as') (λ n b e. omega arith) T.alias;
    fields = row_kept sc 512 (w + 2560) 0 (λ x. lookup x rs) (λ n b e. omega arith) T.fields;
    variant = row_kept sc 1024 (w + 2560) 0 (λ x. lookup x vs) (λ n b e. omega arith) T.variant;
    constant = row_kept sc 1536 (w + 2560) 0 (λ x. lookup x cs) (λ n b e. omega arith) T.constant;
    node = row_kept sc 2048 (w + 2560) 0 (λ x. lookup x ns) (λ n b e. omega arith) T.node;
    port = λ n b h.
        ⊎_elim
        (λ (e : n ≡ w). rw e (get_or-set_same sc (w + 2560) 0 0 (omega (arith, T.room))))
        (λ (e : n ≡ w → ⊥). get_or-set_other sc (w + 2560) (n + 2560) 0 0 (λ q. e (omega arith)) ∙ other n b h e)
        (same_or n w);
  }
    where
      other : (n : ℕ) → n < 512 → (S.text n among xs) ≡ false → (n ≡ w → ⊥) → get_or sc (n + 2560) 0 ≡ 0
      other n b h e =
          ⊎_elim
          (λ (q : (S.text n is S.text w) ≡ true). absurd (e (inj n w (is_test.same (S.text n) (S.text w) q))))
          (λ (q : (S.text n is S.text w) ≡ false). T.port n b (mem_ne ◌is◌ (S.text n) (S.text w) xs q ∙ h))
          (split (S.text n is S.text w))

  -- the same names in another list
  pub forgetting_same : {xs ys : List Name} → ((x : Name) → (x among xs) ≡ (x among ys)) → Forgetting S as' rs vs cs ns xs sc → Forgetting S as' rs vs cs ns ys sc
  forgetting_same same T = record {
    room = T.room;
    beyond = T.beyond;
    alias = T.alias;
    fields = T.fields;
    variant = T.variant;
    constant = T.constant;
    node = T.node;
    port = λ n b h. T.port n b (same (S.text n) ∙ h);
  }

  -- no port is left
  pub forgetting_done : Forgetting S as' rs vs cs ns [] sc → Tables S as' rs vs cs ns [] sc
  unfolding lookup mem
  forgetting_done T = record {
    room = T.room;
    beyond = T.beyond;
    alias = T.alias;
    fields = T.fields;
    variant = T.variant;
    constant = T.constant;
    node = T.node;
    port = λ n b. rw (T.port n b refl) absent;
  }
