-- The lines that a test expects.
-- Assumes nothing: these are definitions.
use Rattle.lustre.specs.declared.Line.{Line}

-- what a report by value holds behind its lines
abbrev pub blank : Line
blank = record { code = 0; place = 0; number = 0; equation = 0; step = 0; name = 0 }
