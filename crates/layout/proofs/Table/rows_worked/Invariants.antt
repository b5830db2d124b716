-- The rows passed are sound and worked out.
use Rattle.std.proofs.Common.{◌≡◌, true, length, take}
use Rattle.layout.specs.Sound.{rows_sound}
use Rattle.layout.specs.Values.{row_values}
use Rattle.layout.proofs.Table.rows_worked.Given as goal

abbrev pub invariant-loop-i : goal.invariant-loop-i
invariant-loop-i l =
    record {
      room : length l.values ≡ 12288;
      sound : rows_sound l.self.bytes.now l.i ≡ true;
      worked : take l.i l.values ≡ row_values l.self.bytes.now l.bits l.i;
    }
