-- What the loops over a list of ports or of names keep: what is left of the list, and that what is done for the rest is done for the whole.
-- Assumes nothing.
use Rattle.std.specs.Prelude.{if◌then◌else◌}
use Rattle.std.specs.Prelude.{Some, None}
use Prim.Native.Nat.{ℕ, ◌+◌, ◌-◌, ◌<◌}
use native.Mathlib.Omega.{arith}
use mathlib.Core.Path.{◌≡◌, refl, sym, ap, ◌∙◌}
use mathlib.Core.Logic.{⊎_elim}
use mathlib.Core.Bool.{Bool, true, false, not, ◌||◌, or-true}
use mathlib.Core.List.{List, [], ◌∷◌, ◌++◌, append_assoc, append-nil}
use lib.Dec.{eqb}
use lib.ListN.{length, get_or, set as with}
use Rattle.lustre.specs.Name.{Name, ◌is◌, ◌among◌}
use Rattle.lustre.specs.Types.{Ty}
use Rattle.lustre.specs.Project.{Port, Heading, port_names}
use Rattle.lustre.specs.Line.{about}
use Rattle.lustre.specs.Node.{repeated, absent}
use Rattle.demands.proofs.Sets.{split, mem_eq, mem_ne, mem_snoc}
use Rattle.standing.specs.Standing.{Source, source, word, EachAt, MentionAt, one_record}
use Rattle.standing.proofs.Sizes.{First, first, no_items}
use Rattle.lustre.specs.Answer.{no_value}
use Rattle.lustre.specs.declared.NameId.{NameId}
use Rattle.lustre.specs.declared.Records.{Records}
use Rattle.lines.specs.Lines.{Put, Noted}
use Rattle.lines.specs.declared.Spot.{Spot}
use Rattle.lines.specs.declared.Lines.{Lines}
use Rattle.lines.proofs.Laws.{noted_none, noted_append, noted_about}
use Rattle.loops.specs.Rows.{has, Connected}
use Rattle.types.specs.Value.{Injective}
use Rattle.rules.specs.World.{PortsOf, source_of}
use Rattle.rules.specs.Walk.{FirstPort, Walked}
use Rattle.rules.specs.declared.walk.Ports.{Ports}
use Rattle.rules.proofs.Walks.{Left, left_start, left_first, left_place, left_name, left_next, left_none, left_end}
use Rattle.scope.specs.Tables.{Tables, Forgetting}
use Rattle.scope.specs.Sets.{Holds}
use Rattle.scope.proofs.Rows.{found_among, names_pairs, tables_port, forgetting_one}
use Rattle.scope.proofs.Sets.{holds_add, holds_same, among_append}
use Rattle.scope.specs.Names.{NamesHere, Numbers}
use Rattle.ports.specs.Ports.{PortsEntered}

-- ---- names of ports

-- the first port's name, and those of the others
names_more : {ps : List Port} (p : Port) (others : List Port) → ps ≡ p ∷ others → port_names ps ≡ p.0 ∷ port_names others
unfolding port_names
names_more p others e = rw e

-- none are left
names_none : {ps : List Port} → ps ≡ [] → port_names ps ≡ []
unfolding port_names
names_none e = rw e

-- names of ports after ports
names_append : (ps rs : List Port) → port_names (ps ++ rs) ≡ port_names ps ++ port_names rs
unfolding port_names
names_append [] rs = refl
names_append (p ∷ ps) rs = ap (λ (l : List Name). p.0 ∷ l) (names_append ps rs)

-- ---- membership

-- one name more at the front, where the others have the same members
among_more : (x y : Name) (xs ys : List Name) → (x among xs) ≡ (x among ys) → (x among (y ∷ xs)) ≡ (x among (y ∷ ys))
among_more x y xs ys h =
    ⊎_elim
    (λ (e : (x is y) ≡ true). mem_eq ◌is◌ x y xs e ∙ sym (mem_eq ◌is◌ x y ys e))
    (λ (e : (x is y) ≡ false). mem_ne ◌is◌ x y xs e ∙ h ∙ sym (mem_ne ◌is◌ x y ys e))
    (split (x is y))

-- a name in the middle may stand at the front
among_middle : (x y : Name) (xs ys : List Name) → (x among (xs ++ (y ∷ ys))) ≡ (x among (y ∷ (xs ++ ys)))
among_middle x y xs ys =
    among_append x xs (y ∷ ys)
    ∙ ⊎_elim
    (λ (e : (x is y) ≡ true). ap (λ (b : Bool). x among xs || b) (mem_eq ◌is◌ x y ys e) ∙ or-true (x among xs) ∙ sym (mem_eq ◌is◌ x y (xs ++ ys) e))
    (λ (e : (x is y) ≡ false). ap (λ (b : Bool). x among xs || b) (mem_ne ◌is◌ x y ys e) ∙ sym (mem_ne ◌is◌ x y (xs ++ ys) e ∙ among_append x xs ys))
    (split (x is y))

-- ---- notes

-- names that repeat depend on the members of those seen
pub repeated_same : (code : ℕ) (seen seen' as' : List Name) → ((x : Name) → (x among seen) ≡ (x among seen')) → repeated code seen as' ≡ repeated code seen' as'
unfolding repeated
repeated_same code seen seen' [] h = refl
repeated_same code seen seen' (a ∷ as') h = rw (h a, repeated_same code (a ∷ seen) (a ∷ seen') as' (λ x. among_more x a seen seen' (h x)))

-- the first name's note on repetition, and those of the others
repeated_more : (code : ℕ) (seen : List Name) (a : Name) (as' : List Name) → repeated code seen (a ∷ as') ≡ (if a among seen then about code a ∷ [] else []) ++ repeated code (a ∷ seen) as'
unfolding repeated
repeated_more code seen a as' = refl

-- no names, no notes
repeated_none : (code : ℕ) (seen : List Name) → repeated code seen [] ≡ []
unfolding repeated
repeated_none code seen = refl

-- names that are absent depend on the members of those known
pub absent_same : (code : ℕ) (known known' as' : List Name) → ((x : Name) → (x among known) ≡ (x among known')) → absent code known as' ≡ absent code known' as'
unfolding absent
absent_same code known known' [] h = refl
absent_same code known known' (a ∷ as') h = rw (h a, absent_same code known known' as' h)

-- the first name's note on absence, and those of the others
absent_more : (code : ℕ) (known : List Name) (a : Name) (as' : List Name) → absent code known (a ∷ as') ≡ absent code known (a ∷ []) ++ absent code known as'
unfolding absent
absent_more code known a as' = go (a among known)
  where
    go : (b : Bool) → (if b then absent code known as' else about code a ∷ absent code known as') ≡ (if b then [] else about code a ∷ []) ++ absent code known as'
    go true = refl
    go false = refl

-- no names, no notes
absent_none : (code : ℕ) (known : List Name) → absent code known [] ≡ []
unfolding absent
absent_none code known = refl

module _ (code : ℕ) (known : List Name) (a : Name) where
  -- a name that is known has no note
  pub absent_known : (a among known) ≡ true → absent code known (a ∷ []) ≡ []
  unfolding absent
  absent_known h = rw h

  -- a name that is not has one
  pub absent_unknown : (a among known) ≡ false → absent code known (a ∷ []) ≡ about code a ∷ []
  unfolding absent
  absent_unknown h = rw h

-- ---- walks

-- a walk is at the start of a list, as `ports_of` gives it
abbrev pub AtStart : Records → ℕ → Ports → Type 0
AtStart r list w = (w.records ≡ r) × (w.at ≡ list + 1) × (w.left ≡ get_or r.words.now list 0)

-- ---- names that are not known

-- the ports that are left, and that the notes on those of them that a set lacks complete the notes on the list
pub record Lacking (r : Records) {list : ℕ} (g : PortsOf r list) (w : Ports) (known : List ℕ) (code : ℕ) (q : Spot) (o l : Lines) : Type 0 where
  pub ports : Left r g w
  pub rest : (num : Name → ℕ) → Numbers g.text num → (xs : List Name) → Holds g.text xs known → {l' : Lines}
      → Noted num q (absent code xs (port_names ports.rest)) l l' → Noted num q (absent code xs (port_names g.ps)) o l'

-- before the first
pub lacking_start : {r : Records} {list : ℕ} (g : PortsOf r list) {w : Ports} {known : List ℕ} {code : ℕ} {q : Spot} {o : Lines}
    → AtStart r list w → Lacking r g w known code q o o
lacking_start {r} g e = record { ports = left_start r g e; rest = λ num b xs k d. d }

module _ {r : Records} {list : ℕ} {g : PortsOf r list} {w : Ports} {known : List ℕ} {code : ℕ} {q : Spot} {o l : Lines} where
  module _ (h : Lacking r g w known code q o l) {v : Ports} {p : NameId × ℕ} (d : Walked w (Some p) v) where
    -- whether a list of names has the first port's name is whether the set has it
    member : (xs : List Name) → Holds g.text xs known → has known 0 p.0.number ≡ ((left_first h.ports d).p.0 among xs)
    member xs t = let f = left_first h.ports d in rw (left_name h.ports d) (t.each (word (source_of r g.text) w.at) f.name.small ∙ ap (λ (x : Name). x among xs) f.name.text)

    -- one more, which has a note or none
    pub lacking_known : has known 0 p.0.number ≡ true → Lacking r g v known code q o l
    lacking_known e = record {
      ports = left_next h.ports d;
      rest = λ num b xs t s. h.rest num b xs t (
          let f = left_first h.ports d in
          rw (names_more f.p f.others f.are, absent_more code xs f.p.0 (port_names f.others), absent_known code xs f.p.0 (sym (member xs t) ∙ e)) s);
    }

    pub lacking_unknown : has known 0 p.0.number ≡ false → {l₁ : Lines} → Put q code no_value p.0.number l l₁ → Lacking r g v known code q o l₁
    lacking_unknown e m = record {
      ports = left_next h.ports d;
      rest = λ num b xs t s. h.rest num b xs t (
          let f = left_first h.ports d in
          rw (names_more f.p f.others f.are, absent_more code xs f.p.0 (port_names f.others), absent_unknown code xs f.p.0 (sym (member xs t) ∙ e))
          (noted_append (noted_about f.p.0 (rw (← f.name.text) (b (word (source_of r g.text) w.at)) ∙ sym (left_name h.ports d)) m) s));
    }

  -- none is left
  pub lacking_end : (h : Lacking r g w known code q o l) {v : Ports} → Walked w None v → (num : Name → ℕ) → Numbers g.text num → (xs : List Name) → Holds g.text xs known
      → Noted num q (absent code xs (port_names g.ps)) o l
  lacking_end h d num b xs t = h.rest num b xs t (rw (names_none (left_none h.ports d), absent_none code xs) noted_none)

-- ---- names added to a set

-- the ports that are left, and that a set that adds their names to the present one adds the names of the list to the first
pub record Adding (r : Records) {list : ℕ} (g : PortsOf r list) (w : Ports) (set₀ set : List ℕ) : Type 0 where
  pub ports : Left r g w
  pub rest : {set' : List ℕ} → ((xs : List Name) → Holds g.text xs set → Holds g.text (port_names ports.rest ++ xs) set')
      → (xs : List Name) → Holds g.text xs set₀ → Holds g.text (port_names g.ps ++ xs) set'

-- before the first
pub adding_start : {r : Records} {list : ℕ} (g : PortsOf r list) {w : Ports} {set : List ℕ}
    → AtStart r list w → Adding r g w set set
adding_start {r} g e = record { ports = left_start r g e; rest = λ k. k }

module _ {r : Records} {list : ℕ} {g : PortsOf r list} {w v : Ports} {set₀ set : List ℕ} (l : Adding r g w set₀ set) where
  -- one more
  pub adding_next : Injective g.text → {p : NameId × ℕ} (d : Walked w (Some p) v) {set₁ : List ℕ} → Connected set 0 p.0.number set₁ → Adding r g v set₀ set₁
  adding_next inj d e = record {
    ports = left_next l.ports d;
    rest = λ s. l.rest (λ xs t.
        let f = left_first l.ports d in
        let u : Holds g.text (f.p.0 ∷ xs) _ = rw (← f.name.text) (holds_add inj f.name.small (rw (left_name l.ports d) at e) t) in
        rw (names_more f.p f.others f.are) (holds_same (λ x. among_middle x f.p.0 (port_names f.others) xs) (s (f.p.0 ∷ xs) u)));
  }

  -- none is left
  pub adding_end : Walked w None v → (xs : List Name) → Holds g.text xs set₀ → Holds g.text (port_names g.ps ++ xs) set
  adding_end d = l.rest (λ xs t. rw (names_none (left_none l.ports d)) t)

-- ---- ports taken out of the scope

-- the ports that are left, and that only they are still to be taken out
pub record Leaving (r : Records) {list : ℕ} (g : PortsOf r list) (w : Ports) (sc₀ sc : List ℕ) : Type 0 where
  pub ports : Left r g w
  pub done : (as' : List (Name × Ty)) (rs : List (Name × List Port)) (vs : List (Name × Name)) (cs : List (Name × Ty)) (ns : List (Name × Heading)) (xs : List Name)
      → Forgetting (source_of r g.text) as' rs vs cs ns (port_names g.ps ++ xs) sc₀ → Forgetting (source_of r g.text) as' rs vs cs ns (port_names ports.rest ++ xs) sc

-- before the first
pub leaving_start : {r : Records} {list : ℕ} (g : PortsOf r list) {w : Ports} {sc : List ℕ}
    → AtStart r list w → Leaving r g w sc sc
leaving_start {r} g e = record { ports = left_start r g e; done = λ as' rs vs cs ns xs k. k }

module _ {r : Records} {list : ℕ} {g : PortsOf r list} {w v : Ports} {sc₀ sc : List ℕ} (l : Leaving r g w sc₀ sc) where
  -- one more
  pub leaving_next : Injective g.text → {p : NameId × ℕ} (d : Walked w (Some p) v) → Leaving r g v sc₀ (with sc (p.0.number + 2560) 0)
  leaving_next inj {p} d = record {
    ports = left_next l.ports d;
    done = λ as' rs vs cs ns xs t.
        let f = left_first l.ports d in
        let n : ℕ = word (source_of r g.text) w.at in
        let q : port_names l.ports.rest ++ xs ≡ g.text n ∷ (port_names f.others ++ xs) = rw (names_more f.p f.others f.are, f.name.text) in
        rw (left_name l.ports d) (forgetting_one n inj f.name.small (rw q at (l.done as' rs vs cs ns xs t)));
  }

  -- none is left
  pub leaving_end : Walked w None v → (as' : List (Name × Ty)) (rs : List (Name × List Port)) (vs : List (Name × Name)) (cs : List (Name × Ty)) (ns : List (Name × Heading)) (xs : List Name)
      → Forgetting (source_of r g.text) as' rs vs cs ns (port_names g.ps ++ xs) sc₀ → Forgetting (source_of r g.text) as' rs vs cs ns xs sc
  leaving_end d as' rs vs cs ns xs t =
      let q : port_names l.ports.rest ++ xs ≡ xs = rw (names_none (left_none l.ports d)) in
      rw q at (l.done as' rs vs cs ns xs t)

-- ---- ports entered into the scope

-- the ports in force, with which and with the ports `rest` the ports env and `all` are complete, and so are the notes
pub record Entered (S : Source) (all rest : List Port) (code : ℕ) (q : Spot) (o : Lines) (sc : List ℕ) (l : Lines) (as' : List (Name × Ty)) (rs : List (Name × List Port)) (vs : List (Name × Name)) (cs : List (Name × Ty)) (ns : List (Name × Heading)) (env : List Port) : Type 0 where
  pub force : List Port
  pub tables : Tables S as' rs vs cs ns force sc
  pub whole : force ++ rest ≡ env ++ all
  pub noted : (num : Name → ℕ) → Numbers S.text num → {l' : Lines}
      → Noted num q (repeated code (port_names force) (port_names rest)) l l' → Noted num q (repeated code (port_names env) (port_names all)) o l'

-- the ports that are left, and that for all tables the others are entered
pub record Entering (r : Records) {list : ℕ} (g : PortsOf r list) (w : Ports) (code : ℕ) (q : Spot) (sc₀ : List ℕ) (o : Lines) (sc : List ℕ) (l : Lines) : Type 0 where
  pub ports : Left r g w
  pub so_far : (as' : List (Name × Ty)) (rs : List (Name × List Port)) (vs : List (Name × Name)) (cs : List (Name × Ty)) (ns : List (Name × Heading)) (env : List Port)
      → Tables (source_of r g.text) as' rs vs cs ns env sc₀ → Entered (source_of r g.text) g.ps ports.rest code q o sc l as' rs vs cs ns env

-- before the first
pub entering_start : {r : Records} {list : ℕ} (g : PortsOf r list) {w : Ports} {code : ℕ} {q : Spot} {sc : List ℕ} {o : Lines}
    → AtStart r list w → Entering r g w code q sc o sc o
entering_start {r} g e = record { ports = left_start r g e; so_far = λ as' rs vs cs ns env T. record { force = env; tables = T; whole = refl; noted = λ num b d. d } }

-- an entry of the table of ports is 0 exactly if no port has the name
port_entry : {S : Source} {as' : List (Name × Ty)} {rs : List (Name × List Port)} {vs : List (Name × Name)} {cs : List (Name × Ty)} {ns : List (Name × Heading)} {env : List Port} {sc : List ℕ}
    → Tables S as' rs vs cs ns env sc → (w : ℕ) → w < 512 → eqb (get_or sc (w + 2560) 0) 0 ≡ not (S.text w among port_names env)
port_entry {S} {env = env} T w b = rw (← names_pairs env) (found_among (S.text w) env (T.port w b))

-- a test and its contrary
if_not : {A : Type 0} (b : Bool) (x y : A) → (if not b then x else y) ≡ (if b then y else x)
if_not true x y = refl
if_not false x y = refl

-- the names seen with one port more at the end, or with its name at the front
seen_more : (code : ℕ) (force : List Port) (p : Port) (as' : List Name) → repeated code (p.0 ∷ port_names force) as' ≡ repeated code (port_names (force ++ (p ∷ []))) as'
unfolding port_names
seen_more code force p as' =
    repeated_same code (p.0 ∷ port_names force) (port_names (force ++ (p ∷ []))) as'
    (λ x. sym (ap (λ (l : List Name). x among l) (names_append force (p ∷ [])) ∙ mem_snoc ◌is◌ x p.0 (port_names force)))

-- one port more
entered_next : {S : Source} {all rest : List Port} {code : ℕ} {q : Spot} {o : Lines} {sc : List ℕ} {l : Lines} {as' : List (Name × Ty)} {rs : List (Name × List Port)} {vs : List (Name × Name)} {cs : List (Name × Ty)} {ns : List (Name × Heading)} {env : List Port} {at next left : ℕ} {l₁ : Lines}
    → Injective S.text → (f : FirstPort S rest at next left)
    → ((num : Name → ℕ) (x : Name) → num x ≡ word S at → Noted num q (if eqb (get_or sc (word S at + 2560) 0) 0 then [] else about code x ∷ []) l l₁)
    → Entered S all rest code q o sc l as' rs vs cs ns env → Entered S all f.others code q o (with sc (word S at + 2560) (at + 1)) l₁ as' rs vs cs ns env
entered_next {S} {rest = rest} {code = code} {at = at} inj f d e =
    let w : ℕ = word S at in
    let p : Port = (S.text w, f.p.1) in
    let are : rest ≡ p ∷ f.others = f.are ∙ rw f.name.text in
    record {
      force = e.force ++ (p ∷ []);
      tables = tables_port w at f.p.1 inj f.name.small f.typed e.tables;
      whole = append_assoc e.force (p ∷ []) f.others ∙ ap (λ (l : List Port). e.force ++ l) (sym are) ∙ e.whole;
      noted = λ num b s. e.noted num b (
          rw (names_more p f.others are, repeated_more code (port_names e.force) (S.text w) (port_names f.others), seen_more code e.force p (port_names f.others), ← if_not (S.text w among port_names e.force) [] (about code (S.text w) ∷ []), ← port_entry e.tables w f.name.small)
          (noted_append (d num (S.text w) (b w)) s));
    }

module _ {r : Records} {list : ℕ} {g : PortsOf r list} {w v : Ports} {code : ℕ} {q : Spot} {sc₀ : List ℕ} {o : Lines} {sc : List ℕ} {l : Lines}
    (h : Entering r g w code q sc₀ o sc l) where
  -- one more
  pub entering_next : Injective g.text → {p : NameId × ℕ} (d : Walked w (Some p) v) {sc₁ : List ℕ} {l₁ : Lines}
      → ((num : Name → ℕ) (x : Name) → num x ≡ p.0.number → Noted num q (if eqb (get_or sc (p.0.number + 2560) 0) 0 then [] else about code x ∷ []) l l₁)
      → sc₁ ≡ with sc (p.0.number + 2560) (p.1 + 1) → Entering r g v code q sc₀ o sc₁ l₁
  entering_next inj d m e = record {
    ports = left_next h.ports d;
    so_far = λ as' rs vs cs ns env T.
        rw (e, left_place h.ports d, left_name h.ports d)
        (entered_next inj (left_first h.ports d) (rw (left_name h.ports d) at m) (h.so_far as' rs vs cs ns env T));
  }

  -- none is left
  pub entering_end : Walked w None v → PortsEntered (source_of r g.text) g.ps list code q sc₀ o v.at sc l
  entering_end d = record {
    next = left_end h.ports d;
    tables = λ as' rs vs cs ns env T.
        let e = h.so_far as' rs vs cs ns env T in
        let y : e.force ≡ env ++ g.ps = sym (append-nil e.force) ∙ ap (λ (ps : List Port). e.force ++ ps) (sym (left_none h.ports d)) ∙ e.whole in
        rw y at e.tables;
    noted = λ num b as' rs vs cs ns env T.
        let e = h.so_far as' rs vs cs ns env T in
        e.noted num b (rw (names_none (left_none h.ports d), repeated_none code (port_names e.force)) noted_none);
  }

-- ---- probes that are not in force

-- the note on one name, by a test
absent_one : (code : ℕ) (known : List Name) (a : Name) → absent code known (a ∷ []) ≡ (if a among known then [] else about code a ∷ [])
unfolding absent
absent_one code known a = refl

-- the names that are left of a list of names behind k of them, and that the notes on them complete the notes on the list
pub record Probing {ws : List ℕ} {list : ℕ} (g : NamesHere ws list) (k : ℕ) (sc : List ℕ) (q : Spot) (o l : Lines) : Type 0 where
  pub xs : List Name
  pub stand : EachAt (MentionAt (source g.ks ws g.text)) one_record xs (list + 1 + k)
  pub many : k + length xs ≡ get_or ws list 0
  pub rest : (num : Name → ℕ) → Numbers g.text num
      → (as' : List (Name × Ty)) (rs : List (Name × List Port)) (vs : List (Name × Name)) (cs : List (Name × Ty)) (ns : List (Name × Heading)) (env : List Port)
      → Tables (source g.ks ws g.text) as' rs vs cs ns env sc → {l' : Lines}
      → Noted num q (absent 150 (port_names env) xs) l l' → Noted num q (absent 150 (port_names env) g.xs) o l'

-- before the first
pub probing_start : {ws : List ℕ} {list : ℕ} (g : NamesHere ws list) {sc : List ℕ} {q : Spot} {o : Lines} → Probing g 0 sc q o o
probing_start {list = list} g =
    let z : list + 1 + 0 ≡ list + 1 = omega arith in
    record { xs = g.xs; stand = rw z g.listed.items; many = omega (arith, g.listed.many); rest = λ num b as' rs vs cs ns env T d. d }

module _ {ws : List ℕ} {list k : ℕ} {g : NamesHere ws list} {sc : List ℕ} {q : Spot} {o l : Lines} (h : Probing g k sc q o l) where
  -- the first that is left
  abbrev pub probing_first : k < get_or ws list 0 → First (MentionAt (source g.ks ws g.text)) one_record h.xs (list + 1 + k) (get_or ws list 0 - k)
  probing_first b = first (MentionAt (source g.ks ws g.text)) one_record h.xs (list + 1 + k) (get_or ws list 0 - k) (omega (arith, h.many)) (λ z. omega arith) h.stand

  module _ (b : k < get_or ws list 0) where
    -- one more
    probing_next : {l₁ : Lines} → ((num : Name → ℕ) → num (g.text (get_or ws (list + 1 + k) 0)) ≡ get_or ws (list + 1 + k) 0
        → Noted num q (if eqb (get_or sc (get_or ws (list + 1 + k) 0 + 2560) 0) 0 then about 150 (g.text (get_or ws (list + 1 + k) 0)) ∷ [] else []) l l₁) → Probing g (k + 1) sc q o l₁
    probing_next d =
        let f = probing_first b in
        let w : ℕ = get_or ws (list + 1 + k) 0 in
        let z : list + 1 + k + 1 ≡ list + 1 + (k + 1) = omega arith in
        record {
          xs = f.rest;
          stand = rw z at f.rest_at;
          many = omega (arith, f.fewer, h.many);
          rest = λ num b as' rs vs cs ns env T s. h.rest num b as' rs vs cs ns env T (
              rw (f.is, ← f.x_at.name.text, absent_more 150 (port_names env) (g.text w) f.rest, absent_one 150 (port_names env) (g.text w), ← if_not (g.text w among port_names env) (about 150 (g.text w) ∷ []) [], ← port_entry T w f.x_at.name.small)
              (noted_append (d num (b w)) s));
        }

    -- whose name is in force, or is not
    pub probing_known : eqb (get_or sc (get_or ws (list + 1 + k) 0 + 2560) 0) 0 ≡ false → Probing g (k + 1) sc q o l
    probing_known e = probing_next (λ num c. rw e noted_none)

    pub probing_unknown : eqb (get_or sc (get_or ws (list + 1 + k) 0 + 2560) 0) 0 ≡ true → {l₁ : Lines} → Put q 150 no_value (get_or ws (list + 1 + k) 0) l l₁ → Probing g (k + 1) sc q o l₁
    probing_unknown e m = probing_next (λ num c. rw e (noted_about (g.text (get_or ws (list + 1 + k) 0)) c m))

  -- none is left
  pub probing_end : k ≡ get_or ws list 0 → (num : Name → ℕ) → Numbers g.text num
      → (as' : List (Name × Ty)) (rs : List (Name × List Port)) (vs : List (Name × Name)) (cs : List (Name × Ty)) (ns : List (Name × Heading)) (env : List Port)
      → Tables (source g.ks ws g.text) as' rs vs cs ns env sc → Noted num q (absent 150 (port_names env) g.xs) o l
  probing_end z num b as' rs vs cs ns env T = h.rest num b as' rs vs cs ns env T (rw (no_items h.xs (omega (arith, h.many)), absent_none 150 (port_names env)) noted_none)
