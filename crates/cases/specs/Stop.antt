-- Why a stream of cases stops.
-- Assumes nothing: these are definitions.
use Rattle.std.specs.Prelude.{Result, Ok, Err}
use Rattle.std.specs.declared.io.Error.{Error}
use Rattle.std.specs.declared.io.ErrorKind.{ErrorKind}
use Rattle.std.specs.declared.io.ErrorKind.TheVariants.{UnexpectedEof}
use Rattle.cases.specs.declared.Stop.{Stop}
use Rattle.cases.specs.declared.Stop.TheVariants.{Ended, Failed}

-- an error of this kind as a stop: the end of the input is no failure
abbrev pub stop_of : ErrorKind → Error → Stop
stop_of UnexpectedEof e = Ended
stop_of kind e = Failed e

-- nor is the end of the cases
abbrev pub finished : Result (Unit {0}) Stop → Result (Unit {0}) Error
finished (Ok done) = Ok done
finished (Err Ended) = Ok tt
finished (Err (Failed e)) = Err e
