-- An hour's actions in bytes, as the plants' tools have them. Assumes nothing.
use Rattle.std.specs.Prelude.{cond, List, [], ◌∷◌, ℕ, zero, suc, ◌+◌, ◌/◌, ◌%◌, eqb, length}
use Rattle.le.specs.Le.{le_at}
use Rattle.pay.specs.declared.Member.{Member}
use Rattle.ramp.specs.declared.Action.{Action}
use Rattle.ramp.specs.declared.Hour.{Hour}
use Rattle.ramp.specs.Ramping.{hour_refused, ramping}

-- an action is 24 bytes
abbrev pub action_size : ℕ
action_size = 24

-- six u32: power at the start, at the end, commanded power, delay, real rate, standard rate
unfoldable pub action_at : List ℕ → ℕ → Action
action_at bytes at =
    record {
      start = record { 0 = le_at bytes at 4 };
      end = record { 0 = le_at bytes (at + 4) 4 };
      command = record { 0 = le_at bytes (at + 8) 4 };
      delay = le_at bytes (at + 12) 4;
      real = le_at bytes (at + 16) 4;
      standard = le_at bytes (at + 20) 4;
    }

-- so many actions from a place on
unfoldable pub actions_from : List ℕ → ℕ → ℕ → List Action
actions_from bytes at zero = []
actions_from bytes at (suc n) = action_at bytes at ∷ actions_from bytes (at + action_size) n

-- the actions that bytes spell
unfoldable pub actions_in : List ℕ → List Action
actions_in bytes = actions_from bytes 0 (length bytes / action_size)

-- AN HOUR IN BYTES IS SCORED: 1 first of all, where they are no multiple of 24; else as its actions are
unfoldable pub ramping_bytes : Member → List ℕ → Hour
ramping_bytes m bytes = cond (eqb (length bytes % action_size) 0) (ramping m (actions_in bytes)) (hour_refused 1 0)
