-- The laws of batches: answers without lines, accepted input, the first batch and the next.
-- Assumes nothing.
use Prim.Native.Nat.{ℕ, ◌+◌, ◌-◌, ◌^◌, ◌≤◌, ◌<◌, min}
use native.Mathlib.Omega.{arith}
use native.Mathlib.Decide.{dec_lt}
use mathlib.Core.Path.{◌≡◌, refl, sym, ap, subst, ◌∙◌}
use mathlib.Core.Bool.{Bool, true, false}
use mathlib.Core.List.{List, []}
use lib.ListN.{length, get_or, take, replicate, length-take, length-map, length-replicate}
use lib.Seq.{get_or-take, take_all}
use borrow.Author.Tests.{le-leb, lt-leb}
use Rattle.lustre.specs.Names.{names_of}
use Rattle.lustre.specs.Report.{report, followed}
use Rattle.lustre.specs.Answer.{answer, reported, writes, project_of, stored, stored_report, work_after}
use Rattle.lustre.specs.declared.Line.{Line}
use Rattle.lustre.specs.declared.Answer.{Answer}
use Rattle.lustre.specs.declared.Answer.TheVariants.{Report, Refused, MoreLines}
use Rattle.lustre.specs.declared.Refusal.{Refusal}
use Rattle.input.specs.Input.{Checked, judged}
use Rattle.std.proofs.Common.{None, Some, Ok, Err}
use Rattle.lustre.proofs.Blank.{blank_stored}
use Rattle.input.proofs.Accepts.{accepts, blank as blank_file}
use Rattle.lines.specs.Lines.{line_in, room, puts, Wrote}
use Rattle.lines.specs.declared.Lines.{Lines}
use Rattle.lines.proofs.Laws.{puts_reads, length_puts}
use Rattle.scope.specs.Model.{Model}
use Rattle.scope.specs.Writes.{Reports}
use Rattle.tables.specs.Entered.{AliasesBelow}
use Rattle.project.proofs.Models.{model}
use Rattle.project.proofs.Lines.{report_stored}
use Rattle.nodes.specs.Nodes.{Blank}
use Rattle.project.proofs.Nodes.{blank_front}
use Rattle.project.proofs.Closed.{closed_count}
use Rattle.project.proofs.Answers.{answer_accepted, answer_blank, answer_refused, count_is, aliases_accepted, work_accepted, reported_writes}
use Rattle.staging.specs.declared.Batch.{Batch}
use Rattle.staging.specs.Batches.{due, blank, Sums, Batched, Going}
use Rattle.staging.specs.Steps.{no_lines, fitting, overfull, counted, Begun}

-- ---- what is due and what the work memory is, by whether lines are written
module _ (ks ws text : List ℕ) where
  due_if : (work space : ℕ) (t : Bool) → writes (answer ks ws text work space) ≡ t → due ks ws text work space ≡ (elim t [ true ↦ take space (stored_report ks ws text) | false ↦ [] ])
  unfolding due
  due_if work space t e = ap (λ (s : Bool). elim s [ true ↦ take space (stored_report ks ws text) | false ↦ [] ]) e

  work_if : (lent : List ℕ) (space : ℕ) (t : Bool) → writes (answer ks ws text (length lent) space) ≡ t → work_after ks ws text space lent ≡ (elim t [ true ↦ replicate (length lent) 0 | false ↦ lent ])
  unfolding work_after
  work_if lent space t e = ap (λ (s : Bool). elim s [ true ↦ replicate (length lent) 0 | false ↦ lent ]) e

-- ---- refused input
module _ (ks ws text : List ℕ) (work space : ℕ) (i : Checked) (r : Refusal) (j : i ≡ judged ks ws text work) (e : i ≡ Err r) where
  -- its answer
  refused_answer : answer ks ws text work space ≡ Refused r
  refused_answer = answer_refused ks ws text work r space (sym j ∙ e)

  -- no line is written
  refused_writes : writes (answer ks ws text work space) ≡ false
  unfolding writes
  refused_writes = ap writes refused_answer

  -- no line is due
  refused_due : length (due ks ws text work space) ≡ 0
  refused_due = ap length (due_if ks ws text work space false refused_writes)

-- ---- a blank file
module _ (ks ws text : List ℕ) (work space : ℕ) (j : judged ks ws text work ≡ Ok None) where
  -- its lines are written, of which there are none
  blank_writes : writes (answer ks ws text work space) ≡ true
  unfolding writes
  blank_writes = ap writes (answer_blank ks ws text work space j)

  -- no line is due
  blank_due : length (due ks ws text work space) ≡ 0
  blank_due =
      ap length (due_if ks ws text work space true blank_writes ∙ ap (take space) (blank_stored ks ws text (blank_file ks ws text work j).1))
      ∙ length-take space [] ∙ omega arith

-- ---- answers without lines

-- the batch of an answer a that no line is due of stands in the work memory that the call leaves
no_lines_batched : (ks ws text lent w : List ℕ) (space : ℕ) (a : Answer) (b : Batch) → answer ks ws text (length lent) space ≡ a
    → length (due ks ws text (length lent) space) ≡ 0 → work_after ks ws text space lent ≡ w → b ≡ no_lines a → Batched ks ws text lent space b w × (b.at ≡ 0)
no_lines_batched ks ws text lent w space a b is none left eb =
    subst (λ (c : Batch). Batched ks ws text lent space c w × (c.at ≡ 0)) (sym eb) (
      record {
        sums = record { answered = sym is; goal = sym none; names = λ h. absurd (omega arith) };
        within = omega arith;
        some = λ h. absurd (omega arith);
        fits = omega arith;
        lines = λ k h. absurd (omega arith);
        done = λ _. sym left;
      },
      refl,
    )

-- that of refused input, in the work memory as it was
pub refused_batched : (ks ws text lent : List ℕ) (space : ℕ) (i : Checked) (r : Refusal) (b : Batch) → i ≡ judged ks ws text (length lent) → i ≡ Err r
    → b ≡ no_lines (Refused r) → Batched ks ws text lent space b lent × (b.at ≡ 0)
refused_batched ks ws text lent space i r b j e =
    no_lines_batched ks ws text lent lent space (Refused r) b
    (refused_answer ks ws text (length lent) space i r j e)
    (refused_due ks ws text (length lent) space i r j e)
    (work_if ks ws text lent space false (refused_writes ks ws text (length lent) space i r j e))

-- and that of a blank file, in the cleared one
pub blank_batched : (ks ws text lent w : List ℕ) (space : ℕ) (i : Checked) (a : Answer) (b : Batch) → i ≡ judged ks ws text (length lent) → i ≡ Ok None
    → (a ≡ Report 0 0) × ((n : ℕ) → length lent ≡ n → w ≡ replicate n 0) → b ≡ no_lines a → Batched ks ws text lent space b w × (b.at ≡ 0)
blank_batched ks ws text lent w space i a b j e h =
    let is = sym j ∙ e in
    no_lines_batched ks ws text lent w space a b
    (answer_blank ks ws text (length lent) space is ∙ sym h.0)
    (blank_due ks ws text (length lent) space is)
    (work_if ks ws text lent space true (blank_writes ks ws text (length lent) space is) ∙ sym (h.1 (length lent) refl))

-- ---- accepted input

-- a pass keeps the length of the work memory
kept_length : {ls : List Line} {l l' : Lines} → Wrote ls l l' → length l'.out.now ≡ length l.out.now
kept_length {ls} {l} r = ap length r.out ∙ length_puts l.out.now l.first l.count ls

-- input is accepted where lines are due
pub accepted_of : (ks ws text : List ℕ) (work space : ℕ) → 0 < length (due ks ws text work space) → (n : ℕ) × (judged ks ws text work ≡ Ok (Some n))
accepted_of ks ws text work space h = go (judged ks ws text work) refl
  where
    go : (i : Checked) → judged ks ws text work ≡ i → (n : ℕ) × (judged ks ws text work ≡ Ok (Some n))
    go (Ok (Some n)) j = (n, j)
    go (Ok None) j = absurd (omega (arith, h, blank_due ks ws text work space j))
    go (Err r) j = absurd (omega (arith, h, refused_due ks ws text work space (Err r) r (sym j) refl))

module _ (ks ws text lent : List ℕ) (space n : ℕ) (e : judged ks ws text (length lent) ≡ Ok (Some n)) where
  -- the work memory is long enough
  enough : 4096 ≤ length lent
  enough = work_accepted ks ws text (length lent) n e

  answered : answer ks ws text (length lent) space ≡ reported space (project_of ks ws text)
  answered = answer_accepted ks ws text (length lent) n space e

  wrote : writes (answer ks ws text (length lent) space) ≡ true
  wrote = ap writes answered ∙ reported_writes space (project_of ks ws text)

  due_is : due ks ws text (length lent) space ≡ take space (stored_report ks ws text)
  due_is = due_if ks ws text (length lent) space true wrote

  cleared : work_after ks ws text space lent ≡ replicate (length lent) 0
  cleared = work_if ks ws text lent space true wrote

  length_stored : length (stored_report ks ws text) ≡ length (report (project_of ks ws text))
  unfolding stored_report
  length_stored = length-map (report (project_of ks ws text)) (stored (names_of text))

  length_due : length (due ks ws text (length lent) space) ≡ min space (length (report (project_of ks ws text)))
  length_due = ap length due_is ∙ length-take space (stored_report ks ws text) ∙ ap (min space) length_stored

  -- the numbers of a report that fits
  module _ (small : space < 2 ^ 63) (m : ℕ) (is : m ≡ min (length (report (project_of ks ws text))) (2 ^ 64 - 1)) where
    sums_few : (looks : ℕ) → looks ≡ followed (project_of ks ws text) → m ≤ space → Sums ks ws text (length lent) space (fitting m looks (length (names_of text)))
    unfolding reported
    sums_few looks f h =
        let few : length (report (project_of ks ws text)) ≤ space = omega arith in
        let all : m ≡ length (report (project_of ks ws text)) = omega arith in
        let told : Report m looks ≡ reported space (project_of ks ws text) = rw (le-leb (length (report (project_of ks ws text))) space few, all, f) in
        let a : Report m looks ≡ answer ks ws text (length lent) space = told ∙ sym answered in
        record { answered = a; goal = omega (arith, length_due); names = λ _. refl }

    -- and of one that does not
    sums_many : space < m → Sums ks ws text (length lent) space (overfull m (length (names_of text)) space)
    unfolding reported
    sums_many h =
        let many : space < length (report (project_of ks ws text)) = omega arith in
        let told : MoreLines m ≡ reported space (project_of ks ws text) = rw (lt-leb (length (report (project_of ks ws text))) space many, is) in
        let a : MoreLines m ≡ answer ks ws text (length lent) space = told ∙ sym answered in
        record { answered = a; goal = omega (arith, length_due); names = λ _. refl }

  -- the lines that a pass has written, from number `first` on
  lines_at : (l l' : Lines) (first : ℕ) → Reports (model (accepts ks ws text (length lent) n e)).number (report (project_of ks ws text)) l l' → l.first ≡ first → l.count ≡ 0
      → first + room l.out.now < 2 ^ 64 → (k : ℕ) → k < room l.out.now → first + k < length (due ks ws text (length lent) space)
      → line_in l'.out.now k ≡ get_or (due ks ws text (length lent) space) (first + k) blank
  lines_at l l' first r from none fits k h g =
      let a = accepts ks ws text (length lent) n e in
      let out : l'.out.now ≡ puts l.out.now first 0 (stored_report ks ws text) = rw (from, none, report_stored a) at r.out in
      ap (λ (o : List ℕ). line_in o k) out
      ∙ puts_reads l.out.now first (stored_report ks ws text) fits k blank h (omega (arith, length_due, length_stored))
      ∙ sym (ap (λ (ls : List Line). get_or ls (first + k) blank) due_is ∙ get_or-take space (stored_report ks ws text) (first + k) blank (omega (arith, length_due)))

  -- a pass and its count are a batch
  pub counted_batched : (b : Batch) (l l' : Lines) → Sums ks ws text (length lent) space b
      → Reports (model (accepts ks ws text (length lent) n e)).number (report (project_of ks ws text)) l l' → l.first ≡ b.at → l.count ≡ 0
      → length l.out.now ≡ length lent → length l.out.now < 2 ^ 64 → space < 2 ^ 63 → b.at < b.goal
      → Batched ks ws text lent space (counted b (length l.out.now)) l'.out.now
  counted_batched b l l' s r from none long fits small more =
      let same : length l'.out.now ≡ length l.out.now = kept_length r in
      let g = s.goal in
      record {
        sums = record { answered = s.answered; goal = s.goal; names = s.names };
        within = omega arith;
        some = λ _. omega (arith, enough);
        fits = omega arith;
        lines = λ k h. lines_at l l' b.at r from none (omega (arith, length_due)) k (omega arith) (omega arith);
        done = λ h. absurd (omega arith);
      }

  -- at the end the work memory is cleared
  pub done_batched : (b : Batch) (o : List ℕ) → Sums ks ws text (length lent) space b → b.at ≡ b.goal → b.count ≡ 0 → o ≡ replicate (length lent) 0 → Batched ks ws text lent space b o
  done_batched b o s h z c = record {
    sums = s;
    within = omega arith;
    some = λ g. absurd (omega arith);
    fits = omega arith;
    lines = λ k g. absurd (omega arith);
    done = λ _. c ∙ sym cleared;
  }

  -- the first batch
  begun_sums : (b : Batch) (w : List ℕ) → space < 2 ^ 63 → (h : Begun (model (accepts ks ws text (length lent) n e)) space lent b w) → Sums ks ws text (length lent) space h.sum × ((h.sum.at ≡ 0) × (h.sum.count ≡ 0))
  begun_sums b w small h = go (dec_lt space h.l'.count)
    where
      is : h.l'.count ≡ min (length (report (project_of ks ws text))) (2 ^ 64 - 1)
      is = closed_count (model (accepts ks ws text (length lent) n e)).number (report (project_of ks ws text)) h.first h.fresh h.reports

      go : Dec (space < h.l'.count) → Sums ks ws text (length lent) space h.sum × ((h.sum.at ≡ 0) × (h.sum.count ≡ 0))
      go (yes l) = let q = h.many l in (subst (Sums ks ws text (length lent) space) (sym q) (sums_many small h.l'.count is l), (ap (λ (c : Batch). c.at) q, ap (λ (c : Batch). c.count) q))
      go (no l) = let q = h.few (omega arith) in (subst (Sums ks ws text (length lent) space) (sym q) (sums_few small h.l'.count is h.looks h.looked (omega arith)), (ap (λ (c : Batch). c.at) q, ap (λ (c : Batch). c.count) q))

  pub begun_batched : (b : Batch) (w : List ℕ) → space < 2 ^ 63 → length lent < 2 ^ 64 → Begun (model (accepts ks ws text (length lent) n e)) space lent b w → Batched ks ws text lent space b w × (b.at ≡ 0)
  begun_batched b w small fits h = go (dec_lt 0 h.sum.goal)
    where
      s : Sums ks ws text (length lent) space h.sum × ((h.sum.at ≡ 0) × (h.sum.count ≡ 0))
      s = begun_sums b w small h

      go : Dec (0 < h.sum.goal) → Batched ks ws text lent space b w × (b.at ≡ 0)
      go (yes l) =
          let q = h.some l in (
            subst (λ (c : Batch). Batched ks ws text lent space c w) (sym q.0) (subst (Batched ks ws text lent space (counted h.sum (length lent))) (sym q.1) (
                rw h.lent at (
                counted_batched h.sum h.l h.l' s.0 h.reports (h.first ∙ sym s.1.0) h.fresh (ap length h.lent) (omega (arith, ap length h.lent)) small (omega (arith, s.1.0, l))
                )
                )),
            ap (λ (c : Batch). c.at) q.0 ∙ s.1.0,
          )
      go (no l) =
          let q = h.none (omega arith) in (
            subst (λ (c : Batch). Batched ks ws text lent space c w) (sym q.0) (done_batched h.sum w s.0 (omega (arith, s.1.0, l)) s.1.1 q.1),
            ap (λ (c : Batch). c.at) q.0 ∙ s.1.0,
          )

-- the first batch of accepted input, by the contract of `begin`
pub first_accepted : (ks ws text lent : List ℕ) (space n : ℕ) (b : Batch) (w : List ℕ) → judged ks ws text (length lent) ≡ Ok (Some n) → space < 2 ^ 63 → length lent < 2 ^ 64
    → ((g : Model ks ws) → g.names ≡ n → Begun g space lent b w) → Batched ks ws text lent space b w × (b.at ≡ 0)
first_accepted ks ws text lent space n b w e small fits h =
    begun_batched ks ws text lent space n e b w small fits (h (model (accepts ks ws text (length lent) n e)) (count_is ks ws text (length lent) n e))

-- ---- the steps

-- zero words are a graph with no edge
pub blank_graph : Blank (replicate 4096 0)
blank_graph =
    let zeros : List ℕ = replicate 4096 0 in
    subst Blank (take_all 4096 zeros (omega (arith, length-replicate {A = ℕ} 4096 0))) (blank_front {w = zeros} {n = 4096} refl (omega arith))

-- the sum of n lines begins at the first
pub sum_within : (n looks names space : ℕ) (b : Batch) → (n ≤ space → b ≡ fitting n looks names) × (space < n → b ≡ overfull n names space) → b.at ≤ b.goal
sum_within n looks names space b s = go (dec_lt space n)
  where
    go : Dec (space < n) → b.at ≤ b.goal
    go (yes l) = let z : b.at ≡ 0 = ap (λ (c : Batch). c.at) (s.1 l) in omega (arith, z)
    go (no l) = let z : b.at ≡ 0 = ap (λ (c : Batch). c.at) (s.0 (omega arith)) in omega (arith, z)

module _ {ks ws : List ℕ} (g : Model ks ws) {names space looks : ℕ} {l l' : Lines} {b : Batch} (q : g.names ≡ names) (first : l.first ≡ 0) (fresh : l.count ≡ 0)
    (r : Reports g.number (report g.P) l l' × (looks ≡ followed g.P)) (s : (l'.count ≤ space → b ≡ fitting l'.count looks names) × (space < l'.count → b ≡ overfull l'.count names space))
    {o : List ℕ} (back : l.out.ghost_name ≡ l'.out.ghost_name → o ≡ l'.out.now) where
  -- the work memory o behind the lines is what they left
  left : o ≡ l'.out.now
  left = back (sym r.0.same)

  left_length : length o ≡ length l.out.now
  left_length = ap length left ∙ kept_length r.0

  -- no line is due
  pub begun_cleared : {w : List ℕ} → b.goal ≡ 0 → w ≡ replicate (length o) 0 → Begun g space l.out.now b w
  begun_cleared z c = record {
    l = l;
    l' = l';
    looks = looks;
    sum = b;
    lent = refl;
    first = first;
    fresh = fresh;
    reports = r.0;
    looked = r.1;
    few = λ h. s.0 h ∙ ap (fitting l'.count looks) (sym q);
    many = λ h. s.1 h ∙ ap (λ (m : ℕ). overfull l'.count m space) (sym q);
    none = λ _. (refl, c ∙ ap (λ (m : ℕ). replicate m 0) left_length);
    some = λ h. absurd (omega (arith, z, h));
  }

  -- some are
  pub begun_counted : {d : Batch} → (b.goal ≡ 0 → ⊥) → d ≡ counted b (length o) → Begun g space l.out.now d o
  begun_counted z c = record {
    l = l;
    l' = l';
    looks = looks;
    sum = b;
    lent = refl;
    first = first;
    fresh = fresh;
    reports = r.0;
    looked = r.1;
    few = λ h. s.0 h ∙ ap (fitting l'.count looks) (sym q);
    many = λ h. s.1 h ∙ ap (λ (m : ℕ). overfull l'.count m space) (sym q);
    none = λ h. absurd (z h);
    some = λ _. (c ∙ ap (counted b) left_length, left);
  }

-- ---- the next batch
module _ (ks ws work : List ℕ) (b : Batch) (g : Going ks ws work b) where
  -- lines are due
  due_some : 0 < length (due ks ws g.text (length g.lent) g.room)
  due_some = omega (arith, g.more, g.batch.sums.goal)

  abbrev names : ℕ
  names = (accepted_of ks ws g.text (length g.lent) g.room due_some).0

  accepted : judged ks ws g.text (length g.lent) ≡ Ok (Some names)
  accepted = (accepted_of ks ws g.text (length g.lent) g.room due_some).1

  -- the number of names is right
  pub names_are : b.names ≡ length (names_of g.text)
  names_are = g.batch.sums.names (omega (arith, g.more))

  -- what a pass asks
  pub going_model : (m : Model ks ws) × (m.names ≡ b.names)
  going_model = (model (accepts ks ws g.text (length g.lent) names accepted), sym names_are)

  pub going_aliases : AliasesBelow ks ws b.names
  going_aliases =
      subst (AliasesBelow ks ws) (sym (count_is ks ws g.text (length g.lent) names accepted) ∙ sym names_are) (aliases_accepted ks ws g.text (length g.lent) names accepted)

  abbrev moved : Batch
  moved = record { answer = b.answer; names = b.names; goal = b.goal; at = b.at + b.count; count = 0 }

  moved_sums : Sums ks ws g.text (length g.lent) g.room moved
  moved_sums = let s = g.batch.sums in record { answered = s.answered; goal = s.goal; names = s.names }

  -- after the last batch
  pub going_done : (r : Batch) (o : List ℕ) → r ≡ moved → b.at + b.count ≡ b.goal → o ≡ replicate (length work) 0 → Batched ks ws g.text g.lent g.room r o × (r.at ≡ b.at + b.count)
  going_done r o q h c = (
    subst (λ (t : Batch). Batched ks ws g.text g.lent g.room t o) (sym q) (
        done_batched ks ws g.text g.lent g.room names accepted moved o moved_sums h refl (c ∙ ap (λ (l : ℕ). replicate l 0) g.long)
        ),
    ap (λ (t : Batch). t.at) q,
  )

  -- and before
  pub going_on : (r : Batch) (l l' : Lines) (o : List ℕ) → r ≡ counted moved (length o) → (b.at + b.count ≡ b.goal → ⊥) → l.out.now ≡ work → l.first ≡ b.at + b.count → l.count ≡ 0 → length work < 2 ^ 64
      → (l.out.ghost_name ≡ l'.out.ghost_name → o ≡ l'.out.now) → ((g' : Model ks ws) → g'.names ≡ b.names → Reports g'.number (report g'.P) l l')
      → Batched ks ws g.text g.lent g.room r o × (r.at ≡ b.at + b.count)
  going_on r l l' o q h same from none fits back p =
      let w = p (model (accepts ks ws g.text (length g.lent) names accepted)) (sym names_are) in
      let left : o ≡ l'.out.now = back (sym w.same) in
      let is : r ≡ counted moved (length l.out.now) = q ∙ ap (counted moved) (ap length left ∙ kept_length w) in
      let long : length l.out.now ≡ length work = ap length same in (
        subst (λ (t : Batch). Batched ks ws g.text g.lent g.room t o) (sym is) (
            subst (Batched ks ws g.text g.lent g.room (counted moved (length l.out.now))) (sym left) (
            counted_batched ks ws g.text g.lent g.room names accepted moved l l' moved_sums w from none (long ∙ g.long) (omega (arith, long)) g.small (omega (arith, g.batch.within, h))
            )),
        ap (λ (t : Batch). t.at) is,
      )
