-- The pass over the types.
-- Assumes nothing.
use Prim.Native.Nat.{ℕ, suc, ◌+◌, ◌-◌, ◌<◌}
use native.Mathlib.Omega.{arith}
use mathlib.Core.Path.{◌≡◌, refl, sym, ◌∙◌, ap, subst}
use mathlib.Core.Bool.{Bool, true, false, ◌||◌}
use mathlib.Core.List.{List, [], ◌∷◌, ◌++◌, map, map-append, append-nil, append_assoc}
use lib.ListN.{length, get_or, replicate, length-append}
use Rattle.lustre.specs.Name.{Name, ◌is◌, ◌among◌}
use Rattle.lustre.specs.Project.{Decl, Alias, Record, Enum, Package, decl_name, skeleton, all_types}
use Rattle.lustre.specs.Resolve.{aliases_of, records_of, variants_of}
use Rattle.lustre.specs.Report.{tagged, variants_in, type_lines, alias_numbers}
use Rattle.demands.proofs.Sets.{mem_snoc}
use Rattle.loops.specs.Rows.{has}
use Rattle.standing.specs.Standing.{EachAt, PackageAt, package_size, list_size, sizes_of}
use Rattle.lines.specs.declared.Lines.{Lines}
use Rattle.scope.specs.Model.{Model}
use Rattle.scope.specs.Tables.{records, TablesOf}
use Rattle.scope.specs.Writes.{Reports}
use Rattle.scope.proofs.Rows.{row_zero, tables_none}
use Rattle.scope.proofs.Sets.{holds_none, among_append}
use Rattle.scope.proofs.Writes.{reports_none, reports_append}
use Rattle.tables.specs.Entered.{SameNames, Numbers, Entered, one_type}
use Rattle.tables.specs.Heads.{Head, a_package, a_type, types_among, heads}
use Rattle.tables.proofs.Heads.{types_tagged, types_met}
use Rattle.tables.proofs.Repeats.{same_cons}
use Rattle.tables.proofs.Decls.{variants_snoc}

-- ---- names of one type more

-- its name
same_name : (seen : List Name) (ds : List Decl) (d : Decl) → SameNames seen (map decl_name ds) → SameNames (decl_name d ∷ seen) (map decl_name (ds ++ (d ∷ [])))
same_name seen ds d h z =
    same_cons (decl_name d) seen (map decl_name ds) h z
    ∙ sym (rw (map-append decl_name ds (d ∷ [])) (mem_snoc ◌is◌ z (decl_name d) (map decl_name ds)))

-- the variants of pairs
paired : (x : Name) (vs : List Name) → map (λ (e : Name × Name). e.0) (map (λ v. (v, x)) vs) ≡ vs
paired x [] = refl
paired x (v ∷ vs) = ap (λ (l : List Name). v ∷ l) (paired x vs)

-- the variants of one type
variants_one : (d : Decl) → map (λ (e : Name × Name). e.0) (variants_of (d ∷ [])) ≡ variants_in d
unfolding variants_of variants_in
variants_one (Alias x t) = refl
variants_one (Record x fs) = refl
variants_one (Enum x vs) =
    let l : List (Name × Name) = map (λ v. (v, x)) vs in
    ap (map (λ (e : Name × Name). e.0)) (append-nil l) ∙ paired x vs

-- the two sides of an or change places
or_turned : (a b : Bool) → (a || b) ≡ (b || a)
or_turned true true = refl
or_turned true false = refl
or_turned false true = refl
or_turned false false = refl

-- its variants
same_variants : (seen : List Name) (ds : List Decl) (d : Decl) → SameNames seen (map (λ (e : Name × Name). e.0) (variants_of ds)) → SameNames (variants_in d ++ seen) (map (λ (e : Name × Name). e.0) (variants_of (ds ++ (d ∷ []))))
same_variants seen ds d h z =
    let us : List Name = map (λ (e : Name × Name). e.0) (variants_of ds) in
    among_append z (variants_in d) seen
    ∙ or_turned (z among variants_in d) (z among seen)
    ∙ ap (λ (b : Bool). b || z among variants_in d) (h z)
    ∙ sym (rw (variants_snoc ds d, map-append (λ (e : Name × Name). e.0) (variants_of ds) (variants_of (d ∷ [])), variants_one d) (among_append z us (variants_in d)))

module _ {ks ws : List ℕ} (g : Model ks ws) where
  -- the first record behind the project's is a package's
  pub first_kind : 1 < length ks → get_or ks 1 0 ≡ 2
  unfolding EachAt sizes_of
  first_kind h = go g.P g.whole g.stands.packages
    where
      go : (P : List Package) → list_size package_size P ≡ length ks → EachAt (PackageAt (records g)) package_size P (0 + 1) → get_or ks 1 0 ≡ 2
      go [] e i = absurd (omega arith)
      go (p ∷ ps) e i = i.0.head.kind

  -- the types before are entered, and the lines of those to come, with their packages' numbers, complete the report
  pub record Passing (o : Lines) (ts : List (ℕ × Decl)) (number : ℕ) (sc nums known : List ℕ) (o₁ : Lines) : Type 0 where
    pub done : List Decl
    pub count : length done ≡ number
    pub entered : Entered g done sc nums known
    pub whole : done ++ map (λ e. e.1) ts ≡ all_types (skeleton g.P)
    pub seen : List Name
    pub variants : List Name
    pub same_names : SameNames seen (map decl_name done)
    pub same_variants : SameNames variants (map (λ e. e.0) (variants_of done))
    pub lines : (o' : Lines) → Reports g.number (type_lines number seen variants ts) o₁ o' → Reports g.number (type_lines 0 [] [] (tagged 0 (skeleton g.P))) o o'

  -- nothing entered
  entered_none : {known : List ℕ} → ((b : ℕ) → has known 0 b ≡ false) → Entered g [] (replicate 3072 0) (replicate 512 0) known
  unfolding aliases_of records_of variants_of alias_numbers
  entered_none h = record {
    tables = tables_none (records g);
    numbers = row_zero g.text (λ p i. p ≡ i) 0 512 (omega arith);
    names = holds_none g.text h;
  }

  module _ {o : Lines} where
    -- at the start
    pub passing_start : {sc nums known : List ℕ} → sc ≡ replicate 3072 0 → nums ≡ replicate 512 0 → ((b : ℕ) → has known 0 b ≡ false) → Passing o (types_among 0 (heads g.P)) 0 sc nums known o
    unfolding variants_of
    passing_start a b h = record {
      done = [];
      count = refl;
      entered = rw (a, b) (entered_none h);
      whole = sym (types_met g.P);
      seen = [];
      variants = [];
      same_names = λ x. refl;
      same_variants = λ x. refl;
      lines = λ o' d. rw (types_tagged 0 g.P) at d;
    }

    -- one type
    pub passing_type : {sc nums known sc' nums' known' : List ℕ} {o₁ o₂ : Lines} {number : ℕ} (pack : ℕ) (d : Decl) (ts later : List (ℕ × Decl)) → ts ≡ (pack, d) ∷ later
        → ((ds : List Decl) → length ds ≡ number → Entered g ds sc nums known → Entered g (ds ++ (d ∷ [])) sc' nums' known' × ((seen variants : List Name) → SameNames seen (map decl_name ds) → SameNames variants (map (λ e. e.0) (variants_of ds)) → Reports g.number (one_type pack number seen variants d) o₁ o₂))
        → Passing o ts number sc nums known o₁ → Passing o later (number + 1) sc' nums' known' o₂
    unfolding type_lines
    passing_type {number = number} pack d ts later e D p =
        let f = D p.done p.count p.entered in
        let z : number + 1 ≡ suc number = omega arith in
        record {
          done = p.done ++ (d ∷ []);
          count = length-append p.done (d ∷ []) ∙ ap (λ (i : ℕ). i + 1) p.count;
          entered = f.0;
          whole = append_assoc p.done (d ∷ []) (map (λ e. e.1) later) ∙ rw e at p.whole;
          seen = decl_name d ∷ p.seen;
          variants = variants_in d ++ p.variants;
          same_names = same_name p.seen p.done d p.same_names;
          same_variants = same_variants p.variants p.done d p.same_variants;
          lines = λ o' r.
              p.lines o'
              (rw e
              (reports_append g.number (one_type pack number p.seen p.variants d) (type_lines (suc number) (decl_name d ∷ p.seen) (variants_in d ++ p.variants) later)
              (f.1 p.seen p.variants p.same_names p.same_variants) (rw z at r)));
        }

    -- at the end
    pub passing_done : {sc nums known : List ℕ} {o₁ : Lines} {number : ℕ} (ts : List (ℕ × Decl)) → ts ≡ [] → Passing o ts number sc nums known o₁
        → TablesOf (records g) (all_types (skeleton g.P)) [] [] [] sc × Numbers g (all_types (skeleton g.P)) nums × Reports g.number (type_lines 0 [] [] (tagged 0 (skeleton g.P))) o o₁
    unfolding type_lines
    passing_done {o₁ = o₁} ts e p =
        let z : p.done ≡ all_types (skeleton g.P) = sym (append-nil p.done) ∙ rw e at p.whole in
        let E = rw z at p.entered in
        (E.tables, E.numbers, p.lines o₁ (rw e (reports_none g.number)))

  -- before the first package nothing has been passed
  pub packaged : {i packages : ℕ} → (packages ≡ 0 → i ≡ 1) → i < length ks → (get_or ks i 0 ≡ 2 → ⊥) → packages ≡ 0 → ⊥
  packaged {i} f h n z = n (ap (λ (j : ℕ). get_or ks j 0) (f z) ∙ first_kind (subst (λ (j : ℕ). j < length ks) (f z) h))

-- the types behind a package
pub among_package : (i : ℕ) (hs rest : List Head) → hs ≡ a_package ∷ rest → types_among i hs ≡ types_among (i + 1) rest
unfolding types_among
among_package i hs rest e = let z : i + 1 ≡ suc i = omega arith in rw (e, z)

-- behind a type
pub among_type : (i : ℕ) (hs rest : List Head) (d : Decl) → hs ≡ a_type d ∷ rest → types_among i hs ≡ (i - 1, d) ∷ types_among i rest
unfolding types_among
among_type i hs rest d e = rw e

-- at the end
pub among_none : (i : ℕ) (hs : List Head) → hs ≡ [] → types_among i hs ≡ []
unfolding types_among
among_none i hs e = rw e
