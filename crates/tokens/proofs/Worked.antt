-- The bytes and the short texts that are worked through, computed over both tables.
use mathlib.Core.Path.{refl}
use Rattle.tokens.specs.Classes.{class_of}
use Rattle.tokens.specs.Remarks.{stretch}
use Rattle.tokens.specs.Words.{front}
use Rattle.tokens.specs.Spans.{width, spans, spans_of}
use Rattle.tokens.specs.Scanned.{foreign_in, first_long, scan_of}
use Rattle.tokens.specs.Worked.{byte_classes, texts, Classed, Scanned}

pub classed : Classed byte_classes
unfolding class_of
classed = refl

pub scanned : Scanned texts
unfolding class_of stretch front width spans spans_of foreign_in first_long scan_of
scanned = refl
