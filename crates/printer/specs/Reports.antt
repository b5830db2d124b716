-- What printing answers, as document 01 tells it: how many bytes were written, or the refusal.
use Rattle.base.specs.Reports.{Report, Written, written}

abbrev pub report : Written → Report
report = written
