-- Writing a book of none or one: 4, 5, 9, else the book; bytes behind it stay, and a refusal changes nothing. Assumes nothing.
use Rattle.std.specs.Prelude.{Bool, true, cond, not, ◌&&◌, List, [], ◌∷◌, ◌++◌, ℕ, eqb, ltb, length, drop}
use Rattle.call.specs.declared.Call.{Call}
use Rattle.call.specs.Limits.{call_is_sound}
use Rattle.book.specs.declared.Header.{Header}
use Rattle.book.specs.declared.write.Written.{Written}
use Rattle.book.specs.Book.{first_version, size_of, book_bytes}
use Rattle.book.specs.Check.{header_is_sound, header_minutes}

-- what writing or joining leaves: a refusal's number and place, or zeros; the book's length; the lent output
pub record BookOutcome : Type 0 where
  pub number : ℕ
  pub place : ℕ
  pub size : ℕ
  pub out : List ℕ

-- the answer and the output at exit, as one outcome
abbrev pub book_outcome : Written → List ℕ → BookOutcome
book_outcome answer after = record { number = answer.number; place = answer.place; size = answer.length; out = after }

-- a refusal: number and place, otherwise zeros; the output keeps its contents
abbrev pub refused_out : ℕ → ℕ → List ℕ → BookOutcome
refused_out number place out = record { number = number; place = place; size = 0; out = out }

-- accepted: the book stands at the start of the output, and the bytes after it stay
abbrev pub wrote_out : List ℕ → List ℕ → BookOutcome
wrote_out book out = record { number = 0; place = 0; size = length book; out = book ++ drop (length book) out }

-- each call is sound, in a month of so many minutes
unfoldable pub sound_calls : ℕ → List Call → Bool
sound_calls minutes [] = true
sound_calls minutes (c ∷ cs) = call_is_sound minutes c && sound_calls minutes cs

-- 4: a header field; 5: a record field; 9: the output is too short
abbrev pub fault : Header → Bool → ℕ → ℕ → ℕ
fault h sound size room = cond (not (header_is_sound h)) 4 (cond (not sound) 5 (cond (ltb room size) 9 0))

unfoldable pub write_fault : Header → List Call → ℕ → ℕ
write_fault h cs room = fault h (sound_calls (header_minutes h) cs) (size_of (length cs)) room

-- a book of these calls, none or one, of the first version, written into an output; 5 has place 0
unfoldable pub writing : Header → List Call → List ℕ → BookOutcome
writing h cs out =
    cond (eqb (write_fault h cs (length out)) 0) (wrote_out (book_bytes first_version h cs) out) (refused_out (write_fault h cs (length out)) 0 out)
