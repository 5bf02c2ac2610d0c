-- The lines of a statement, read at the front of a text. Assumes nothing.
use mathlib.Core.Path.{◌≡◌, refl, sym, ◌∙◌, ap}
use mathlib.Core.List.{List, ◌++◌, append_assoc}
use Prim.Native.Nat.{ℕ, ◌^◌, ◌<◌}
use native.Mathlib.Omega.{arith}
use lib.IntN.{ℤ}
use lib.ListN.{length}
use mir.Syntax.{w64}
use mir.Val.{SFits, to_z, of_z}
use Rattle.book.specs.declared.Header.{Header}
use Rattle.month.specs.declared.Row.{Row}
use Rattle.render.specs.Decimal.{word, signed_decimal, field, signed_field}
use Rattle.posted.specs.declared.line.Heads.{Heads}
use Rattle.posted.specs.declared.line.Earned.{Earned}
use Rattle.posted.specs.declared.line.Carried.{Carried}
use Rattle.posted.specs.declared.line.Got.{Got}
use Rattle.posted.specs.Posted.{head_text, earned_text, carried_text, got_text, row_text}
use Rattle.posted.specs.Reading.{HeadFits, RowFits, BeginsHead, BeginsRow, head_line, row_line}
use Rattle.posted.specs.Inner.{starts_digit, FieldIs, SignedFieldIs, EarnedIs, CarriedIs, GotIs}
use Rattle.posted.specs.Inner.{HeadIs, RowIs, SumIs, NoSum, sum_text, HeadAt, RowAt, SumAt}
use Rattle.posted.proofs.Signing.{through}

three : (a b c d : List ℕ) → ((a ++ b) ++ c) ++ d ≡ a ++ (b ++ (c ++ d))
three a b c d = simp append_assoc

four : (a b c d e : List ℕ) → (((a ++ b) ++ c) ++ d) ++ e ≡ a ++ (b ++ (c ++ (d ++ e)))
four a b c d e = simp append_assoc

five : (a b c d e f : List ℕ) → ((((a ++ b) ++ c) ++ d) ++ e) ++ f ≡ a ++ (b ++ (c ++ (d ++ (e ++ f))))
five a b c d e f = simp append_assoc

six : (a b c d e f g : List ℕ) → (((((a ++ b) ++ c) ++ d) ++ e) ++ f) ++ g ≡ a ++ (b ++ (c ++ (d ++ (e ++ (f ++ g)))))
six a b c d e f g = simp append_assoc

module _ (t ta tb : List ℕ) where
  pub earned_reads : (tc td te : List ℕ) (a b c d e : ℕ) → FieldIs 7 t a ta → FieldIs 7 ta b tb → FieldIs 8 tb c tc → FieldIs 14 tc d td → FieldIs 12 td e te
      → EarnedIs t (record { number = a; hours = b; grains = c; compensation = d; assessment = e }) te
  unfolding earned_text starts_digit
  earned_reads tc td te a b c d e f g h i j =
      record {
        reads =
            λ r rest fits n cut.
            let hours = field " hours " r.hours in
            let grains = field " grains " r.grains.0 in
            let money = field " compensation " r.compensation.0 in
            let points = field " assessment " r.assessment.0 in
            let one = f.reads (word "member ") r.number (hours ++ (grains ++ (money ++ (points ++ rest)))) refl (omega (arith, fits.number)) refl
            (cut ∙ five (field "member " r.number) hours grains money points rest) in
            let two = g.reads (word " hours ") r.hours (grains ++ (money ++ (points ++ rest))) refl (omega (arith, fits.hours)) refl one.1 in
            let three = h.reads (word " grains ") r.grains.0 (money ++ (points ++ rest)) refl fits.grains refl two.1 in
            let four = i.reads (word " compensation ") r.compensation.0 (points ++ rest) refl fits.compensation refl three.1 in
            let last = j.reads (word " assessment ") r.assessment.0 rest refl (omega (arith, fits.assessment)) n four.1 in
            (record { number = one.0; hours = two.0; grains = three.0; compensation = four.0; assessment = last.0 }, last.1);
      }

  pub carried_reads : (tc : List ℕ) (a b : ℕ) (c : ℤ) → FieldIs 8 t a ta → FieldIs 8 ta b tb → SignedFieldIs 7 tb c tc
      → CarriedIs t (record { energy = a; weight = b; share = to_z w64 (of_z w64 c) }) tc
  unfolding carried_text starts_digit
  carried_reads tc a b c f g h =
      record {
        reads =
            λ r rest fits n cut.
            let weight = field " weight " r.weight in
            let share = signed_field " share " r.share.0 in
            let one = f.reads (word " energy ") r.energy.0 (weight ++ (share ++ rest)) refl (omega (arith, fits.energy)) refl
            (cut ∙ three (field " energy " r.energy.0) weight share rest) in
            let two = g.reads (word " weight ") r.weight (share ++ rest) refl fits.weight refl one.1 in
            let last = h.reads (word " share ") r.share.0 rest refl fits.share n two.1 in
            (record { energy = one.0; weight = two.0; share = through _ _ fits.share last.0 }, last.1);
      }

  pub got_reads : (tc : List ℕ) (a b : ℕ) (c : ℤ) → FieldIs 13 t a ta → FieldIs 7 ta b tb → SignedFieldIs 8 tb c tc
      → GotIs t (record { uncollected = a; given = b; amount = to_z w64 (of_z w64 c) })
  unfolding got_text starts_digit
  got_reads tc a b c f g h =
      record {
        reads =
            λ r rest fits cut.
            let given = field " given " r.given.0 in
            let amount = signed_field " amount " r.amount.0 in
            let one = f.reads (word " uncollected ") r.uncollected.0 (given ++ (amount ++ (word "\n" ++ rest))) refl fits.uncollected refl
            (cut ∙ four (field " uncollected " r.uncollected.0) given amount (word "\n") rest) in
            let two = g.reads (word " given ") r.given.0 (amount ++ (word "\n" ++ rest)) refl fits.given refl one.1 in
            let last = h.reads (word " amount ") r.amount.0 (word "\n" ++ rest) refl fits.amount refl two.1 in
            record { uncollected = one.0; given = two.0; amount = through _ _ fits.amount last.0 };
      }

  pub heads_reads : (tc td te : List ℕ) (a b c d e : ℕ) (area year month part : ℕ)
      → FieldIs 5 t a ta → FieldIs 6 ta b tb → FieldIs 7 tb c tc → FieldIs 7 tc d td → FieldIs 6 td e te
      → (a < 2 ^ 8 → area ≡ a) → (b < 2 ^ 16 → year ≡ b) → (c < 2 ^ 8 → month ≡ c) → (e < 2 ^ 32 → part ≡ e)
      → (g : Header) (n p : ℕ) (rest : List ℕ) → HeadFits g n p → t ≡ head_text g n p ++ rest
      → (area ≡ g.area) × (year ≡ g.year) × (month ≡ g.month) × (d ≡ n) × (part ≡ p)
  unfolding head_text starts_digit
  heads_reads tc td te a b c d e area year month part f g h i j u v w o x n p rest fits cut =
      let years = field " year " x.year in
      let months = field " month " x.month in
      let calls = field " calls " n in
      let parts = field " part " p in
      let one = f.reads (word "area ") x.area (years ++ (months ++ (calls ++ (parts ++ (word "\n" ++ rest))))) refl (omega (arith, fits.area)) refl
      (cut ∙ six (field "area " x.area) years months calls parts (word "\n") rest) in
      let two = g.reads (word " year ") x.year (months ++ (calls ++ (parts ++ (word "\n" ++ rest)))) refl (omega (arith, fits.year)) refl one.1 in
      let three = h.reads (word " month ") x.month (calls ++ (parts ++ (word "\n" ++ rest))) refl (omega (arith, fits.month)) refl two.1 in
      let four = i.reads (word " calls ") n (parts ++ (word "\n" ++ rest)) refl fits.calls refl three.1 in
      let last = j.reads (word " part ") p (word "\n" ++ rest) refl (omega (arith, fits.part)) refl four.1 in (
        u (omega (arith, one.0, fits.area)) ∙ one.0,
        v (omega (arith, two.0, fits.year)) ∙ two.0,
        w (omega (arith, three.0, fits.month)) ∙ three.0,
        four.0,
        o (omega (arith, last.0, fits.part)) ∙ last.0,
      )

-- the one number of a line
pub sum_reads : (size : ℕ) (t : List ℕ) (a : ℤ) (left : List ℕ) → SignedFieldIs size t a left → SumIs size t (to_z w64 (of_z w64 a))
unfolding starts_digit
sum_reads size t a left f =
    record {
      reads =
          λ name z rest long fits cut.
          through _ _ fits (f.reads name z (word "\n" ++ rest) long fits refl (cut ∙ append_assoc (name ++ signed_decimal z) (word "\n") rest)).0;
    }

-- a header of the same numbers
pub same_header : {a b c : ℕ} (g : Header) → a ≡ g.area → b ≡ g.year → c ≡ g.month → ◌≡◌ {A = Header} (record { area = a; year = b; month = c }) g
same_header g p q r = λ i. record { area = p i; year = q i; month = r i }

module _ (t : List ℕ) where
  -- the three parts of a member's line
  pub row_reads : (ta tb : List ℕ) (e : Earned) (k : Carried) (m : Got) (number hours assessment energy : ℕ) → EarnedIs t e ta → CarriedIs ta k tb → GotIs tb m
      → (e.number < 2 ^ 16 → number ≡ e.number) → (e.hours < 2 ^ 16 → hours ≡ e.hours) → (e.assessment < 2 ^ 32 → assessment ≡ e.assessment) → (k.energy < 2 ^ 32 → energy ≡ k.energy)
      → (r : Row) (rest : List ℕ) → RowFits r → t ≡ row_text r ++ rest
      → ◌≡◌ {A = Row}
      (record {
        grains = record { 0 = e.grains };
        compensation = record { 0 = e.compensation };
        weight = k.weight;
        share = record { 0 = to_z w64 (of_z w64 k.share) };
        uncollected = record { 0 = m.uncollected };
        given = record { 0 = m.given };
        amount = record { 0 = to_z w64 (of_z w64 m.amount) };
        assessment = record { 0 = assessment };
        energy = record { 0 = energy };
        number = number;
        hours = hours;
      })
      r
  unfolding row_text carried_text got_text starts_digit
  row_reads ta tb e k m number hours assessment energy f g j u o v w r rest fits cut =
      let one = f.reads r (carried_text r ++ (got_text r ++ rest)) fits refl (cut ∙ three (earned_text r) (carried_text r) (got_text r) rest) in
      let two = g.reads r (got_text r ++ rest) fits refl one.1 in
      let p = one.0 in
      let q = two.0 in
      let d = j.reads r rest fits two.1 in
      let n : number ≡ r.number = u (omega (arith, p.number, fits.number)) ∙ p.number in
      let h : hours ≡ r.hours = o (omega (arith, p.hours, fits.hours)) ∙ p.hours in
      let s : assessment ≡ r.assessment.0 = v (omega (arith, p.assessment, fits.assessment)) ∙ p.assessment in
      let y : energy ≡ r.energy.0 = w (omega (arith, q.energy, fits.energy)) ∙ q.energy in
      let x : to_z w64 (of_z w64 k.share) ≡ r.share.0 = through _ _ fits.share q.share in
      let z : to_z w64 (of_z w64 m.amount) ≡ r.amount.0 = through _ _ fits.amount d.amount in
      λ i.
      record {
        grains = record { 0 = p.grains i };
        compensation = record { 0 = p.compensation i };
        weight = q.weight i;
        share = record { 0 = x i };
        uncollected = record { 0 = d.uncollected i };
        given = record { 0 = d.given i };
        amount = record { 0 = z i };
        assessment = record { 0 = s i };
        energy = record { 0 = y i };
        number = n i;
        hours = h i;
      }

  module _ (w : List ℕ) where
    pub head_taken : (h : Heads) (behind : List ℕ) → HeadIs t h → w ≡ head_text h.header h.calls h.part → t ≡ w ++ behind → HeadAt t h behind
    head_taken h behind l e cut = record { fits = l.fits; is = cut ∙ ap (λ (xs : List ℕ). xs ++ behind) e }

    pub no_head_taken : (h : Heads) → HeadIs t h → w ≡ head_text h.header h.calls h.part → ((rest : List ℕ) → t ≡ w ++ rest → ⊥) → BeginsHead t → ⊥
    no_head_taken h l e none (head_line x calls part rest fits cut) =
        let same = l.reads x calls part rest fits cut in
        none rest (cut ∙ sym (ap (λ (xs : List ℕ). xs ++ rest) (e ∙ (λ i. head_text (same.0 i) (same.1 i) (same.2 i)))))

    pub row_taken : (row : Row) (behind : List ℕ) → RowIs t row → w ≡ row_text row → t ≡ w ++ behind → RowAt t row behind
    row_taken row behind l e cut = record { fits = l.fits; is = cut ∙ ap (λ (xs : List ℕ). xs ++ behind) e }

    pub no_row_taken : (row : Row) → RowIs t row → w ≡ row_text row → ((rest : List ℕ) → t ≡ w ++ rest → ⊥) → BeginsRow t → ⊥
    no_row_taken row l e none (row_line r rest fits cut) =
        none rest (cut ∙ sym (ap (λ (xs : List ℕ). xs ++ rest) (e ∙ ap (λ (x : Row). row_text x) (l.reads r rest fits cut))))

    module _ (name : List ℕ) (amount : ℤ) (l : SumIs (length name) t amount) (e : w ≡ sum_text name amount) where
      pub sum_taken : (behind : List ℕ) → SFits w64 amount → t ≡ w ++ behind → SumAt name t amount behind
      sum_taken behind few cut = record { fits = few; is = cut ∙ ap (λ (xs : List ℕ). xs ++ behind) e }

      pub no_sum_taken : ((rest : List ℕ) → t ≡ w ++ rest → ⊥) → NoSum name t
      no_sum_taken none z rest fits cut = none rest (cut ∙ sym (ap (λ (xs : List ℕ). xs ++ rest) (e ∙ ap (λ (x : ℤ). sum_text name x) (l.reads name z rest refl fits cut))))
