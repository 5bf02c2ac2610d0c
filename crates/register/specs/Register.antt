-- The register of a month: a line a member, with what its sharing line needs besides the compensation, and with its limit. Assumes nothing.
use Rattle.std.specs.Prelude.{Bool, false, cond, ◌&&◌, List, [], ◌∷◌, ℕ, suc, pos, get_or, drop}
use Rattle.units.specs.declared.Fen.{Fen}
use Rattle.share.specs.declared.Line.{Line}
use Rattle.share.specs.Sharing.{most_number}
use Rattle.ceiling.specs.declared.LimitedLine.{LimitedLine}
use Rattle.ceiling.specs.Ceiling.{limited_is_sound}
use Rattle.pay.specs.Member.{member_is_sound}
use Rattle.register.specs.declared.Entry.{Entry}

-- participants are numbered 1 to 64, so there are at most 64 lines
abbrev pub most_entries : ℕ
most_entries = most_number

-- an entry of zeros, which is never sound
abbrev pub blank_entry : Entry
blank_entry =
    record {
      member = record { number = 0; kind = 0; rated = record { 0 = 0 } };
      status = 0;
      energy = record { 0 = 0 };
      assessment = record { 0 = 0 };
      limit = record { none = false; fen = record { 0 = 0 } };
    }

-- the sharing line of an entry whose member is compensated so
unfoldable pub entry_line : Entry → Fen → Line
entry_line e fen =
    record {
      number = e.member.number;
      status = e.status;
      energy = e.energy;
      compensation = fen;
      assessment = e.assessment;
      share = record { 0 = pos 0 };
      amount = record { 0 = pos 0 };
    }

-- the same with the entry's limit; nothing is shared yet
unfoldable pub entry_limited : Entry → Fen → LimitedLine
entry_limited e fen = record { line = entry_line e fen; limit = e.limit; uncollected = record { 0 = 0 }; given = record { 0 = 0 } }

-- an entry is sound after the number `before`: as a register line, as a sharing line, which has no compensation yet, and by its limit
unfoldable pub entry_is_sound : ℕ → Entry → Bool
entry_is_sound before e = member_is_sound e.member && limited_is_sound before (entry_limited e (record { 0 = 0 }))

-- the place of the first entry that is not sound, or the number of entries where all are
abbrev pub first_bad_entry : ℕ → List Entry → ℕ
first_bad_entry before [] = 0
first_bad_entry before (e ∷ es) = cond (entry_is_sound before e) (suc (first_bad_entry e.member.number es)) 0

-- the sharing lines, with their limits, of entries whose members are compensated so, in turn
abbrev pub limited_for : List Entry → List Fen → List LimitedLine
limited_for [] fens = []
limited_for (e ∷ es) fens = entry_limited e (get_or fens 0 (record { 0 = 0 })) ∷ limited_for es (drop 1 fens)
