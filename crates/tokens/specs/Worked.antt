-- Classes and limits at both sides, worked through: bytes with their classes, and short texts with what a scan of them answers.
use Rattle.std.specs.Prelude.{◌≡◌, List, [], ◌∷◌, map, ℕ, Result, Ok, Err, replicate}
use Prim.Native.Char.{code as byte}
use Rattle.base.specs.Refusals.{refusal}
use Rattle.base.specs.Text.{bytes}
use Rattle.base.specs.declared.Reason.TheVariants.{Text, Byte, Word}
use Rattle.base.specs.declared.Refusal.{Refusal}
use Rattle.tokens.specs.Classes.{class_of}
use Rattle.tokens.specs.Scanned.{scan_of}

-- Each byte at which a class begins or ends, with those beside it: 0 foreign, 1 to 4 the signs ( ) , : in this order, 5 letter, 6 digit,
-- 7 underscore, 8 blank, 9 the start of a remark. A tab, 9, is foreign.
abbrev pub byte_classes : List (ℕ × ℕ)
byte_classes =
    (0, 0) ∷ (9, 0) ∷ (10, 8) ∷ (11, 0) ∷ (13, 0) ∷ (31, 0) ∷ (32, 8) ∷ (33, 0) ∷ (34, 0) ∷ (35, 9) ∷ (36, 0) ∷ (39, 0) ∷ (40, 1) ∷ (41, 2) ∷ (42, 0) ∷ (43, 0) ∷ (44, 3) ∷ (45, 0)
    ∷ (47, 0) ∷ (48, 6) ∷ (57, 6) ∷ (58, 4) ∷ (59, 0) ∷ (64, 0) ∷ (65, 5) ∷ (90, 5) ∷ (91, 0) ∷ (94, 0) ∷ (95, 7) ∷ (96, 0) ∷ (97, 5) ∷ (122, 5) ∷ (123, 0)
    ∷ (127, 0) ∷ (128, 0) ∷ (255, 0) ∷ []

-- A word of 24 bytes is a token, one of 25 is refused with 4 at its first byte; signs and blanks in any number are no word. A foreign byte, as a
-- tab, is refused with 3 at its place, before a long word; 16,384 bytes are no long drawing, 16,385 are. A remark ends a word and holds none, long
-- or short, and nothing but bytes 32 to 126, a # among them; it ends with its line, and its bytes count.
abbrev pub texts : List (List ℕ × Result ℕ Refusal)
texts =
    (bytes "", Ok 0)
    ∷ (bytes "abcdefghijklmnopqrstuvwx", Ok 1)
    ∷ (bytes "abcdefghijklmnopqrstuvwxy", Err (refusal Word 0))
    ∷ (bytes " (123456789012345678901234", Ok 2)
    ∷ (bytes " (1234567890123456789012345", Err (refusal Word 2))
    ∷ (bytes "(((((((((((((((((((((((((", Ok 25)
    ∷ (bytes "                         ", Ok 0)
    ∷ (bytes "a\na ", Ok 2)
    ∷ (bytes "a\ta", Err (refusal Byte 1))
    ∷ (bytes "abcdefghijklmnopqrstuvwxy\t", Err (refusal Byte 25))
    ∷ (bytes "#", Ok 0)
    ∷ (bytes "le#x\naf", Ok 2)
    ∷ (bytes "(#,#,\n#\n ,#", Ok 2)
    ∷ (bytes "#abcdefghijklmnopqrstuvwxy", Ok 0)
    ∷ (bytes "abcdefghijklmnopqrstuvwx#y", Ok 1)
    ∷ (bytes "#\nabcdefghijklmnopqrstuvwxy", Err (refusal Word 2))
    ∷ (bytes "a# !~\n!", Err (refusal Byte 6))
    ∷ (bytes "a#b\tc", Err (refusal Byte 3))
    ∷ (bytes "#\r\n", Err (refusal Byte 1))
    ∷ (byte "#" ∷ 31 ∷ 32 ∷ [], Err (refusal Byte 1))
    ∷ (byte "#" ∷ 32 ∷ 126 ∷ 127 ∷ [], Err (refusal Byte 3))
    ∷ (byte "#" ∷ 255 ∷ [], Err (refusal Byte 1))
    ∷ (byte "#" ∷ replicate 16383 (byte "x"), Ok 0)
    ∷ (byte "#" ∷ replicate 16384 (byte "x"), Err (refusal Text 16384))
    ∷ (replicate 16384 (byte " "), Ok 0)
    ∷ (replicate 16385 (byte " "), Err (refusal Text 16384))
    ∷ []

abbrev pub Classed : List (ℕ × ℕ) → Type 0
Classed bs = map (λ b. class_of b.0) bs ≡ map (λ b. b.1) bs

abbrev pub Scanned : List (List ℕ × Result ℕ Refusal) → Type 0
Scanned ts = map (λ t. scan_of t.0) ts ≡ map (λ t. t.1) ts
