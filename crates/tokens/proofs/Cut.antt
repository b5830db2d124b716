-- What is cut off the front of a text is a token.
use mathlib.Core.Path.{◌≡◌, refl}
use mathlib.Core.Bool.{true}
use mathlib.Core.List.{List, [], ◌∷◌, map}
use Prim.Native.Nat.{ℕ, zero, suc, ◌+◌, ◌-◌}
use lib.ListN.{length, take, drop}
use Rattle.base.proofs.Truth.{and_i, by_cases}
use Rattle.tokens.specs.Classes.{worded, unbroken}
use Rattle.tokens.specs.Remarks.{blanks}
use Rattle.tokens.specs.Words.{front}
use Rattle.tokens.specs.Spans.{Span, width, cut, spans, spans_of, tokens}
use Rattle.tokens.specs.Rest.{rest}
use Rattle.tokens.proofs.Front.{front_every}
use Rattle.tokens.proofs.Remarks.{blanks_past, token_stands}
use Rattle.tokens.proofs.Tokens.{token, all_tokens, whole_word}

pub cut_is_token : (b : ℕ) (bs : List ℕ) → unbroken b ≡ true → token (take (width (b ∷ bs)) (b ∷ bs)) ≡ true
unfolding width front
cut_is_token b bs p =
    by_cases (worded b) (λ e. rw e (whole_word (b ∷ take (front worded bs) bs) (and_i e (front_every worded bs)) e)) (λ e. rw e p)

-- These tokens, by their bytes.
abbrev bytes_in : List Span → List (List ℕ)
bytes_in ss = map (λ (s : Span). s.bytes) ss

cut_tokens : (rest : ℕ → List ℕ → List Span) → ((at : ℕ) (bs : List ℕ) → all_tokens (bytes_in (rest at bs)) ≡ true)
    → (at : ℕ) (bs : List ℕ) → blanks bs ≡ 0 → all_tokens (bytes_in (cut rest at bs)) ≡ true
cut_tokens rest h at [] p = refl
cut_tokens rest h at (b ∷ bs) p = and_i (cut_is_token b bs (token_stands b bs p)) (h (at + width (b ∷ bs)) (drop (width (b ∷ bs)) (b ∷ bs)))

spans_tokens : (f at : ℕ) (bs : List ℕ) → all_tokens (bytes_in (spans f at bs)) ≡ true
unfolding spans
spans_tokens zero at bs = refl
spans_tokens (suc f) at bs =
    cut_tokens (λ at bs. spans f at bs) (λ at bs. spans_tokens f at bs) (at + blanks bs) (drop (blanks bs) bs) (blanks_past bs)

-- The bytes of a text's tokens are bytes of tokens, from any position on.
pub all_lexed : (text : List ℕ) → all_tokens (tokens text) ≡ true
unfolding tokens spans_of
all_lexed text = spans_tokens (length text) 0 text

pub rest_lexed : (text : List ℕ) (at : ℕ) → all_tokens (bytes_in (rest text at)) ≡ true
unfolding rest
rest_lexed text at = spans_tokens (length text - at) at (drop at text)
