-- The key of a call, and the order of keys. Assumes nothing.
use Rattle.std.specs.Prelude.{◌≡◌, ◌⊎◌, ℕ, ◌+◌, ◌*◌, ◌<◌}
use Rattle.call.specs.declared.Call.{Call}

-- participant and call number make the key; as one number, the participant above the 32 bits of the call number
abbrev pub key_of : ℕ → ℕ → ℕ
key_of participant number = participant * 4294967296 + number

abbrev pub call_key : Call → ℕ
call_key c = key_of c.participant c.number

-- the paper's order: by participant, then number
abbrev pub KeyBefore : Call → Call → Type 0
KeyBefore x y = (x.participant < y.participant) ⊎ ((x.participant ≡ y.participant) × (x.number < y.number))
