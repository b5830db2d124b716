-- What the calls answer, as the papers tell it: how many bytes were written, or the refusal.
use Rattle.base.specs.Reports.{Report, Written, written}

abbrev pub report : Written → Report
report = written
