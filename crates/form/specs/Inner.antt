-- What inner contracts say of a form that is put piece by piece. Assumes nothing.
use Rattle.std.specs.Prelude.{◌≡◌, true, false, List, ℕ, ◌+◌, ◌≤◌, ◌<◌, length, get_or, drop}
use Rattle.std.proofs.lemmas.List.Edits.{sets}
use Rattle.form.specs.Form.{is_sign, filled_from, most_from}
use Rattle.form.specs.declared.walk.Far.{Far}

-- the bytes of a form from a place up to another are no signs
pub record Plain (form : List ℕ) (from to : ℕ) : Type 0 where
  pub order : from ≤ to
  pub within : to ≤ length form
  pub plain : (k : ℕ) → from ≤ k → k < to → is_sign (get_or form k 0) ≡ false

-- a sign stands there, or the form ends
pub record Stops (form : List ℕ) (at : ℕ) : Type 0 where
  pub sign : at < length form → is_sign (get_or form at 0) ≡ true

-- a text of at most so many bytes is to stand from a place on: some of it is put, and what is left of it, behind, makes the same bytes
pub record Goes (before : List ℕ) (at : ℕ) (text : List ℕ) (most : ℕ) (after : List ℕ) (behind : ℕ) (left : List ℕ) (mostLeft : ℕ) : Type 0 where
  pub fits : behind + mostLeft ≤ at + most
  pub long : behind + length left ≡ at + length text
  pub bytes : sets after behind left ≡ sets before at text

module _ (one other form : List ℕ) where
  -- the most bytes that are left behind so many of the form's bytes
  abbrev pub room_left : ℕ → ℕ
  room_left read = most_from (length one) (length other) false (drop read form)

  module _ (vs : List ℕ) where
    -- what is left of the text
    abbrev pub text_left : Far → List ℕ
    text_left far = filled_from one other far.on false (drop far.read form) (drop far.taken vs)

    -- a form put further
    pub record Walks (before : List ℕ) (far : Far) (after : List ℕ) (farther : Far) : Type 0 where
      pub goes : Goes before far.at (text_left far) (room_left far.read) after farther.at (text_left farther) (room_left farther.read)
      pub order : farther.taken ≤ farther.read
      pub within : farther.read ≤ length form
