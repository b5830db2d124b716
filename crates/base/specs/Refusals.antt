-- What is turned away, by document 01's table "Numbers for what is turned away" as the cards go on with it: the number of each reason.
use Rattle.std.specs.Prelude.{ℕ}
use Rattle.base.specs.declared.Reason.{Reason}
use Rattle.base.specs.declared.Reason.TheVariants.{Buffer, Text, Byte, Word, Token, Node, Name, Parameter, Solid, Weak, Count, Table, Record, Event, Guard, Profile}
use Rattle.base.specs.declared.Refusal.{Refusal}

-- 1 a lent buffer too short, or a record not of 64 bytes; 2 a text too long; 3 a foreign byte; 4 a long word; 5 off grammar; 6 too many nodes or too
-- deep; 7 a name twice; 8 a parameter; 9 the solid child; 10 a weak flow; 11 too many copies or events; 12 an unsound table; 13 a stray bit; 14 no such
-- event; 15 not now; 16 outside the profile of machines.
abbrev pub number : Reason → ℕ
number Buffer = 1
number Text = 2
number Byte = 3
number Word = 4
number Token = 5
number Node = 6
number Name = 7
number Parameter = 8
number Solid = 9
number Weak = 10
number Count = 11
number Table = 12
number Record = 13
number Event = 14
number Guard = 15
number Profile = 16

abbrev pub refusal : Reason → ℕ → Refusal
refusal reason place = record { reason = reason; place = place }
