-- "Blank is all zero."
use Rattle.std.specs.Prelude.{replicate}
use Rattle.record.specs.declared.Record.{Record}

unfoldable pub blank_record : Record
blank_record = record { bits = replicate 8 0 }
