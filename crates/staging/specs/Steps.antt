-- The batches that the steps make.
-- Assumes nothing: these are definitions.
use Rattle.std.specs.Prelude.{ℕ, ◌-◌, ◌/◌, ◌≤◌, ◌<◌, min, ◌≡◌, List, length, replicate}
use Rattle.lustre.specs.Report.{report, followed}
use Rattle.lustre.specs.declared.Answer.{Answer}
use Rattle.lustre.specs.declared.Answer.TheVariants.{Report, MoreLines}
use Rattle.lines.specs.declared.Lines.{Lines}
use Rattle.scope.specs.Model.{Model}
use Rattle.scope.specs.Writes.{Reports}
use Rattle.staging.specs.declared.Batch.{Batch}

-- an answer without lines: none is due
abbrev pub no_lines : Answer → Batch
no_lines a = record { answer = a; names = 0; goal = 0; at = 0; count = 0 }

-- n lines that fit
abbrev pub fitting : ℕ → ℕ → ℕ → Batch
fitting n looks names = record { answer = Report n looks; names = names; goal = n; at = 0; count = 0 }

-- n lines, which do not fit the room
abbrev pub overfull : ℕ → ℕ → ℕ → Batch
overfull n names room = record { answer = MoreLines n; names = names; goal = room; at = 0; count = 0 }

-- the batch b with as many lines as are due and have places in so many words
abbrev pub counted : Batch → ℕ → Batch
counted b len = record { answer = b.answer; names = b.names; goal = b.goal; at = b.at; count = min (b.goal - b.at) (len / 6) }

-- The first batch b of a model: the report's lines are written from the first on to the work memory o; b sums them, and counts those that
-- stand in the work memory w, which is as they left it, or cleared where no line is due.
pub record Begun {ks ws : List ℕ} (g : Model ks ws) (room : ℕ) (o : List ℕ) (b : Batch) (w : List ℕ) : Type 0 where
  pub l : Lines
  pub l' : Lines
  pub looks : ℕ
  pub sum : Batch
  pub lent : l.out.now ≡ o
  pub first : l.first ≡ 0
  pub fresh : l.count ≡ 0
  pub reports : Reports g.number (report g.P) l l'
  pub looked : looks ≡ followed g.P
  pub few : l'.count ≤ room → sum ≡ fitting l'.count looks g.names
  pub many : room < l'.count → sum ≡ overfull l'.count g.names room
  pub none : sum.goal ≡ 0 → (b ≡ sum) × (w ≡ replicate (length o) 0)
  pub some : 0 < sum.goal → (b ≡ counted sum (length o)) × (w ≡ l'.out.now)
