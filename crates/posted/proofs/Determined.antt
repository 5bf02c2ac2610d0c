-- A text reads in one way; what is written reads back. Assumes nothing.
use mathlib.Core.Path.{◌≡◌, refl, sym, ◌∙◌, ap}
use mathlib.Core.Bool.{false}
use mathlib.Core.List.{List, [], ◌∷◌, ◌++◌, append_assoc}
use Prim.Native.Nat.{ℕ, zero, suc, ◌+◌, ◌<◌}
use native.Mathlib.Omega.{arith}
use lib.IntN.{ℤ, pos, negsuc}
use lib.ListN.{length, get_or, drop}
use lib.Seq.{drop_at}
use mir.Syntax.{w64}
use mir.Val.{SFits}
use Rattle.book.specs.declared.Header.{Header}
use Rattle.month.specs.declared.Row.{Row}
use Rattle.render.specs.Decimal.{word, decimal, signed_decimal, field, signed_field}
use Rattle.posted.specs.Posted.{head_text, earned_text, carried_text, got_text, row_text, rows_text, total_text, user_text}
use Rattle.posted.specs.Reading.{Posted, RowsFit, more, BeginsHead, BeginsRow, BeginsTotal, BeginsUser, head_line, row_line, total_line, user_line, Taken, read_whole, bad_line}
use Rattle.posted.specs.Reading.{ReadPosted, no_head, no_line, no_user_lem, no_end, whole}
use Rattle.posted.specs.Inner.{worth, behind_digits, starts_digit, starts_minus}
use Rattle.posted.proofs.Words.{never}
use Rattle.posted.proofs.Posting.{append_none}
use Rattle.posted.proofs.Taking.{worth_decimal, behind_decimal, unsigned}

-- Numbers

decimal_same : (m n : ℕ) (x y : List ℕ) → starts_digit x ≡ false → starts_digit y ≡ false → decimal m ++ x ≡ decimal n ++ y → (m ≡ n) × (x ≡ y)
decimal_same m n x y e f cut =
    (sym (worth_decimal m x e) ∙ ap (worth 0) cut ∙ worth_decimal n y f, sym (behind_decimal m x e) ∙ ap behind_digits cut ∙ behind_decimal n y f)

-- the same name in front
behind_name : (name a b x y : List ℕ) → (name ++ a) ++ x ≡ (name ++ b) ++ y → a ++ x ≡ b ++ y
behind_name name a b x y cut =
    sym (drop_at name (a ++ x) (length name) refl) ∙ ap (drop (length name)) (sym (append_assoc name a x) ∙ cut ∙ append_assoc name b y) ∙ drop_at name (b ++ y) (length name) refl

field_same : (name : List ℕ) (m n : ℕ) (x y : List ℕ) → starts_digit x ≡ false → starts_digit y ≡ false → (name ++ decimal m) ++ x ≡ (name ++ decimal n) ++ y → (m ≡ n) × (x ≡ y)
field_same name m n x y e f cut = decimal_same m n x y e f (behind_name name (decimal m) (decimal n) x y cut)

down : ℕ → ℕ
down zero = zero
down (suc n) = n

sign_same : (y z : ℤ) (a b : List ℕ) → starts_digit a ≡ false → starts_digit b ≡ false → signed_decimal y ++ a ≡ signed_decimal z ++ b → (y ≡ z) × (a ≡ b)
unfolding signed_decimal starts_minus down
sign_same (pos m) (pos n) a b e f cut = let p = decimal_same m n a b e f cut in (ap pos p.0, p.1)
sign_same (negsuc m) (negsuc n) a b e f cut =
    let p = decimal_same (suc m) (suc n) a b e f (ap (drop 1) cut) in
    (ap (λ (k : ℕ). negsuc (down k)) p.0, p.1)
sign_same (pos m) (negsuc n) a b e f cut = never (starts_minus (decimal m ++ a)) (ap starts_minus cut) (unsigned m a)
sign_same (negsuc m) (pos n) a b e f cut = never (starts_minus (decimal n ++ b)) (ap starts_minus (sym cut)) (unsigned n b)

money_same : (name : List ℕ) (y z : ℤ) (a b : List ℕ) → starts_digit a ≡ false → starts_digit b ≡ false → (name ++ signed_decimal y) ++ a ≡ (name ++ signed_decimal z) ++ b → (y ≡ z) × (a ≡ b)
money_same name y z a b e f cut = sign_same y z a b e f (behind_name name (signed_decimal y) (signed_decimal z) a b cut)

-- Lines

six : (a b c d e f g : List ℕ) → (((((a ++ b) ++ c) ++ d) ++ e) ++ f) ++ g ≡ a ++ (b ++ (c ++ (d ++ (e ++ (f ++ g)))))
six a b c d e f g = simp append_assoc

twelve : (a b c d e f g h i j k l m : List ℕ) → ((((((a ++ b) ++ c) ++ d) ++ e) ++ ((f ++ g) ++ h)) ++ (((i ++ j) ++ k) ++ l)) ++ m
    ≡ a ++ (b ++ (c ++ (d ++ (e ++ (f ++ (g ++ (h ++ (i ++ (j ++ (k ++ (l ++ m)))))))))))
twelve a b c d e f g h i j k l m = simp append_assoc

pub head_same : (g h : Header) (m n p q : ℕ) (x y : List ℕ) → head_text g m p ++ x ≡ head_text h n q ++ y → (g ≡ h) × (m ≡ n) × (p ≡ q) × (x ≡ y)
unfolding head_text starts_digit
head_same g h m n p q x y cut =
    let whole =
    sym (six (field "area " g.area) (field " year " g.year) (field " month " g.month) (field " calls " m) (field " part " p) (word "\n") x)
    ∙ cut
    ∙ six (field "area " h.area) (field " year " h.year) (field " month " h.month) (field " calls " n) (field " part " q) (word "\n") y in
    let a = field_same (word "area ") g.area h.area _ _ refl refl whole in
    let b = field_same (word " year ") g.year h.year _ _ refl refl a.1 in
    let c = field_same (word " month ") g.month h.month _ _ refl refl b.1 in
    let d = field_same (word " calls ") m n _ _ refl refl c.1 in
    let e = field_same (word " part ") p q _ _ refl refl d.1 in
    (λ i. record { area = a.0 i; year = b.0 i; month = c.0 i }, d.0, e.0, ap (drop 1) e.1)

pub row_same : (r s : Row) (x y : List ℕ) → row_text r ++ x ≡ row_text s ++ y → (r ≡ s) × (x ≡ y)
unfolding row_text earned_text carried_text got_text starts_digit
row_same r s x y cut =
    let whole =
    sym (twelve (field "member " r.number) (field " hours " r.hours) (field " grains " r.grains.0) (field " compensation " r.compensation.0) (field " assessment " r.assessment.0)
    (field " energy " r.energy.0) (field " weight " r.weight) (signed_field " share " r.share.0) (field " uncollected " r.uncollected.0) (field " given " r.given.0)
    (signed_field " amount " r.amount.0) (word "\n") x)
    ∙ cut
    ∙ twelve (field "member " s.number) (field " hours " s.hours) (field " grains " s.grains.0) (field " compensation " s.compensation.0) (field " assessment " s.assessment.0)
    (field " energy " s.energy.0) (field " weight " s.weight) (signed_field " share " s.share.0) (field " uncollected " s.uncollected.0) (field " given " s.given.0)
    (signed_field " amount " s.amount.0) (word "\n") y in
    let a = field_same (word "member ") r.number s.number _ _ refl refl whole in
    let o = field_same (word " hours ") r.hours s.hours _ _ refl refl a.1 in
    let b = field_same (word " grains ") r.grains.0 s.grains.0 _ _ refl refl o.1 in
    let c = field_same (word " compensation ") r.compensation.0 s.compensation.0 _ _ refl refl b.1 in
    let d = field_same (word " assessment ") r.assessment.0 s.assessment.0 _ _ refl refl c.1 in
    let e = field_same (word " energy ") r.energy.0 s.energy.0 _ _ refl refl d.1 in
    let f = field_same (word " weight ") r.weight s.weight _ _ refl refl e.1 in
    let g = money_same (word " share ") r.share.0 s.share.0 _ _ refl refl f.1 in
    let u = field_same (word " uncollected ") r.uncollected.0 s.uncollected.0 _ _ refl refl g.1 in
    let v = field_same (word " given ") r.given.0 s.given.0 _ _ refl refl u.1 in
    let h = money_same (word " amount ") r.amount.0 s.amount.0 _ _ refl refl v.1 in (
      λ i.
          record {
            number = a.0 i;
            hours = o.0 i;
            grains = record { 0 = b.0 i };
            compensation = record { 0 = c.0 i };
            assessment = record { 0 = d.0 i };
            energy = record { 0 = e.0 i };
            weight = f.0 i;
            share = record { 0 = g.0 i };
            uncollected = record { 0 = u.0 i };
            given = record { 0 = v.0 i };
            amount = record { 0 = h.0 i };
          },
      ap (drop 1) h.1,
    )

pub total_same : (y z : ℤ) (a b : List ℕ) → total_text y ++ a ≡ total_text z ++ b → (y ≡ z) × (a ≡ b)
unfolding total_text starts_digit
total_same y z a b cut =
    let whole = sym (append_assoc (signed_field "total " y) (word "\n") a) ∙ cut ∙ append_assoc (signed_field "total " z) (word "\n") b in
    let p = money_same (word "total ") y z _ _ refl refl whole in
    (p.0, ap (drop 1) p.1)

pub user_same : (y z : ℤ) (a b : List ℕ) → user_text y ++ a ≡ user_text z ++ b → (y ≡ z) × (a ≡ b)
unfolding user_text starts_digit
user_same y z a b cut =
    let whole = sym (append_assoc (signed_field "user " y) (word "\n") a) ∙ cut ∙ append_assoc (signed_field "user " z) (word "\n") b in
    let p = money_same (word "user ") y z _ _ refl refl whole in
    (p.0, ap (drop 1) p.1)

-- the line of R is none of a member
pub total_no_row : (z : ℤ) (x : List ℕ) → ¬ BeginsRow (total_text z ++ x)
unfolding total_text row_text earned_text
total_no_row z x (row_line r rest fits cut) = absurd (let e : ◌≡◌ {A = ℕ} 116 109 = ap (λ (l : List ℕ). get_or l 0 0) cut in omega (arith, e))

-- Lines one behind the other

-- two lists of members' lines in front of what is left: the same, or one goes on where the other ends
data Compared (rs ss : List Row) (x y : List ℕ) : Type 0 where
  same : rs ≡ ss → x ≡ y → Compared rs ss x y
  first_goes_on : BeginsRow y → length ss < length rs → Compared rs ss x y
  second_goes_on : BeginsRow x → length rs < length ss → Compared rs ss x y

compare : (rs ss : List Row) (x y : List ℕ) → RowsFit rs → RowsFit ss → rows_text rs ++ x ≡ rows_text ss ++ y → Compared rs ss x y
unfolding rows_text
compare [] [] x y f g cut = same refl cut
compare [] (s ∷ ss) x y f (more g gs) cut = second_goes_on (row_line s (rows_text ss ++ y) g (cut ∙ append_assoc (row_text s) (rows_text ss) y)) (omega arith)
compare (r ∷ rs) [] x y (more f fs) g cut = first_goes_on (row_line r (rows_text rs ++ x) f (sym cut ∙ append_assoc (row_text r) (rows_text rs) x)) (omega arith)
compare (r ∷ rs) (s ∷ ss) x y (more f fs) (more g gs) cut =
    let p = row_same r s _ _ (sym (append_assoc (row_text r) (rows_text rs) x) ∙ cut ∙ append_assoc (row_text s) (rows_text ss) y) in
    go p.0 (compare rs ss x y fs gs p.1)
  where
    go : r ≡ s → Compared rs ss x y → Compared (r ∷ rs) (s ∷ ss) x y
    go e (same d k) = same (λ i. e i ∷ d i) k
    go e (first_goes_on b l) = first_goes_on b (omega arith)
    go e (second_goes_on b l) = second_goes_on b (omega arith)

-- no further member's line is taken
abbrev Ended : List Row → List ℕ → Type 0
Ended rows rest = ¬ (BeginsRow rest × (length rows < 64))

-- the lines that are taken, and what is left
pub record Same (h g : Header) (m n p q : ℕ) (rs ss : List Row) (x y : List ℕ) : Type 0 where
  pub header : h ≡ g
  pub calls : m ≡ n
  pub part : p ≡ q
  pub rows : rs ≡ ss
  pub rest : x ≡ y

taken_same : {t x y : List ℕ} {h g : Header} {m n p q : ℕ} {rs ss : List Row} → Taken t h m p rs x → Taken t g n q ss y → Ended rs x → Ended ss y → Same h g m n p q rs ss x y
taken_same {t} {x} {y} {h} {g} {m} {n} {p} {q} {rs} {ss} k l e f =
    let cut = sym (append_assoc (head_text h m p) (rows_text rs) x) ∙ sym k.is ∙ l.is ∙ append_assoc (head_text g n q) (rows_text ss) y in
    let d = head_same h g m n p q _ _ cut in
    go d.0 d.1 d.2 (compare rs ss x y k.fit l.fit d.3)
  where
    go : h ≡ g → m ≡ n → p ≡ q → Compared rs ss x y → Same h g m n p q rs ss x y
    go a b o (same c d) = record { header = a; calls = b; part = o; rows = c; rest = d }
    go a b o (first_goes_on c less) = absurd (f (c, omega (arith, k.few)))
    go a b o (second_goes_on c less) = absurd (e (c, omega (arith, l.few)))

total_ends : (rs : List Row) (z : ℤ) (x : List ℕ) → Ended rs (total_text z ++ x)
total_ends rs z x p = total_no_row z x p.0

has_head : {t x : List ℕ} {h : Header} {m p : ℕ} {rs : List Row} → Taken t h m p rs x → BeginsHead t
has_head {t} {x} {h} {m} {p} {rs} k = head_line h m p (rows_text rs ++ x) k.head (k.is ∙ append_assoc (head_text h m p) (rows_text rs) x)

-- R is not there, and it is
no_total : {t x : List ℕ} {h g : Header} {m n p q : ℕ} {rs ss : List Row} (z : ℤ) (y : List ℕ) → Taken t h m p rs x → Ended rs x → ¬ BeginsTotal x
    → Taken t g n q ss (total_text z ++ y) → SFits w64 z → ⊥
no_total {ss = ss} z y k e none l f = none (total_line z y f (taken_same k l e (total_ends ss z y)).rest)

-- R is there twice
record SameTotal (h g : Header) (m n p q : ℕ) (rs ss : List Row) (z w : ℤ) (x y : List ℕ) : Type 0 where
  lines : Same h g m n p q rs ss (total_text z ++ x) (total_text w ++ y)
  gap : z ≡ w
  rest : x ≡ y

both_total : {t x y : List ℕ} {h g : Header} {m n p q : ℕ} {rs ss : List Row} (z w : ℤ) → Taken t h m p rs (total_text z ++ x) → Taken t g n q ss (total_text w ++ y)
    → SameTotal h g m n p q rs ss z w x y
both_total {x = x} {y} {rs = rs} {ss} z w k l =
    let lines = taken_same k l (total_ends rs z x) (total_ends ss w y) in
    let same = total_same z w x y lines.rest in
    record { lines = lines; gap = same.0; rest = same.1 }

-- the user's amount is there, with something behind it or nothing
begins_user : (u : ℤ) (x : List ℕ) → SFits w64 u → BeginsUser (user_text u ++ x)
begins_user u x f = user_line u x f refl

begins_last : (u : ℤ) → SFits w64 u → BeginsUser (user_text u)
begins_last u f = user_line u [] f (sym (append_none (user_text u)))

-- THE READER'S ANSWER IS DETERMINED by the text.
pub posted_determined : {t : List ℕ} {r s : Posted} → ReadPosted t r → ReadPosted t s → r ≡ s
posted_determined (no_head e n) (no_head f k) = e ∙ sym f
posted_determined (no_head e n) (no_line h c o rs x f p k l) = absurd (n (has_head p))
posted_determined (no_head e n) (no_user_lem h c o rs z x f p k l) = absurd (n (has_head p))
posted_determined (no_head e n) (no_end h c o rs z u x f p k v l) = absurd (n (has_head p))
posted_determined (no_head e n) (whole h c o rs z u f p k v) = absurd (n (has_head p))
posted_determined (no_line h c o rs x f p k l) (no_head e n) = absurd (n (has_head p))
posted_determined (no_line h c o rs x f p k l) (no_line g d a ss y e q m n) = let w = taken_same p q k m in f ∙ ap (λ (us : List Row). bad_line (1 + length us)) w.rows ∙ sym e
posted_determined (no_line h c o rs x f p k l) (no_user_lem g d a ss z y e q m n) = absurd (no_total z _ p k l q m)
posted_determined (no_line h c o rs x f p k l) (no_end g d a ss z u y e q m v n) = absurd (no_total z _ p k l q m)
posted_determined (no_line h c o rs x f p k l) (whole g d a ss z u e q m v) = absurd (no_total z _ p k l q m)
posted_determined (no_user_lem h c o rs z x f p k l) (no_head e n) = absurd (n (has_head p))
posted_determined (no_user_lem h c o rs z x f p k l) (no_line g d a ss y e q m n) = absurd (no_total z _ q m n p k)
posted_determined (no_user_lem h c o rs z x f p k l) (no_user_lem g d a ss w y e q m n) =
    f ∙ ap (λ (us : List Row). bad_line (2 + length us)) (both_total z w p q).lines.rows ∙ sym e
posted_determined (no_user_lem h c o rs z x f p k l) (no_end g d a ss w u y e q m v n) = absurd (l (rw (both_total z w p q).rest (begins_user u y v)))
posted_determined (no_user_lem h c o rs z x f p k l) (whole g d a ss w u e q m v) = absurd (l (rw (both_total z w p q).rest (begins_last u v)))
posted_determined (no_end h c o rs z u x f p k v l) (no_head e n) = absurd (n (has_head p))
posted_determined (no_end h c o rs z u x f p k v l) (no_line g d a ss y e q m n) = absurd (no_total z _ q m n p k)
posted_determined (no_end h c o rs z u x f p k v l) (no_user_lem g d a ss w y e q m n) = absurd (n (rw (both_total w z q p).rest (begins_user u x v)))
posted_determined (no_end h c o rs z u x f p k v l) (no_end g d a ss w b y e q m i n) =
    f ∙ ap (λ (us : List Row). bad_line (3 + length us)) (both_total z w p q).lines.rows ∙ sym e
posted_determined (no_end h c o rs z u x f p k v l) (whole g d a ss w b e q m i) =
    absurd (l (user_same u b x [] ((both_total z w p q).rest ∙ sym (append_none (user_text b)))).1)
posted_determined (whole h c o rs z u f p k v) (no_head e n) = absurd (n (has_head p))
posted_determined (whole h c o rs z u f p k v) (no_line g d a ss y e q m n) = absurd (no_total z _ q m n p k)
posted_determined (whole h c o rs z u f p k v) (no_user_lem g d a ss w y e q m n) = absurd (n (rw (both_total w z q p).rest (begins_last u v)))
posted_determined (whole h c o rs z u f p k v) (no_end g d a ss w b y e q m i n) =
    absurd (n (user_same b u y [] ((both_total w z q p).rest ∙ sym (append_none (user_text u)))).1)
posted_determined (whole h c o rs z u f p k v) (whole g d a ss w b e q m j) =
    let s = both_total z w p q in
    let y = user_same u b [] [] (append_none (user_text u) ∙ s.rest ∙ sym (append_none (user_text b))) in
    f ∙ (λ i. read_whole (s.lines.header i) (s.lines.calls i) (s.lines.part i) (s.lines.rows i) (s.gap i) (y.0 i)) ∙ sym e
