-- Scoring without a word of order: what lets a member's calls be scored, and what they give together. Assumes nothing.
use Rattle.std.specs.Prelude.{◌≡◌, true, ℕ, ◌+◌, ℤ, pos, ◌+ℤ◌}
use mathlib.Core.List.{List, [], ◌∷◌, Memᴰ as In}
use Rattle.call.specs.declared.Call.{Call}
use Rattle.call.specs.Revising.{live, contested}
use Rattle.pay.specs.declared.Member.{Member}
use Rattle.pay.specs.declared.open.Month.{Month}
use Rattle.pay.specs.Event.{energy_pay}
use Rattle.pay.specs.Open.{open_to}
use Rattle.score.specs.Scoring.{pay_of, wh_of}
use Rattle.score.specs.Outcomes.{Against}

-- what calls pay a member, added up, the energy of events apart
unfoldable pub pay_of_all : Member → List ℕ → List Call → ℕ
pay_of_all m series [] = 0
pay_of_all m series (x ∷ xs) = pay_of m series x + pay_of_all m series xs

-- their energy, added up
unfoldable pub wh_of_all : Member → List Call → ℤ
wh_of_all m [] = pos 0
wh_of_all m (x ∷ xs) = wh_of m x +ℤ wh_of_all m xs

-- the member's grains from calls: their pay, and their energy, clamped once
unfoldable pub grains_of_all : Member → List ℕ → List Call → ℕ
grains_of_all m series cs = pay_of_all m series cs + energy_pay (wh_of_all m cs)

-- x is a live call of the member
pub record OwnLive (m : Member) (x : Call) : Type 0 where
  pub own : x.participant ≡ m.number
  pub live : x.state ≡ live

-- of the member's calls among these none is contested, each live one is open to it, and no two live ones stand against each other
pub record Scorable (month : Month) (m : Member) (cs : List Call) : Type 0 where
  pub uncontested : (x : Call) → In x cs → x.participant ≡ m.number → x.state ≡ contested → ⊥
  pub each_open : (x : Call) → In x cs → OwnLive m x → open_to month m x ≡ true
  pub apart : (x y : Call) → In x cs → In y cs → (x ≡ y → ⊥) → OwnLive m x → Against m.number x y → ⊥
