use mathlib.Core.Path.{◌≡◌, sym, ◌∙◌, ap}
use mathlib.Core.Bool.{true}
use Rattle.book.specs.Book.{size_of, HasHeader, count_at}
use Rattle.book.specs.Check.{is_marked, is_versioned, is_headed, header_minutes}
use Rattle.book.proofs.Turns.{short, unmarked, unversioned, unheaded, uncounted, counted}
use Rattle.book.proofs.check.Goals as goal

pub returns-then-b-lt-HEADER_SIZE : goal.returns-then-b-lt-HEADER_SIZE
returns-then-b-lt-HEADER_SIZE c = c.refused.ensures ∙ sym (short _ c.if-b-lt-HEADER_SIZE.true)

pub returns-then-not-is_marked : goal.returns-then-not-is_marked
returns-then-not-is_marked c =
    let long : HasHeader c.args.b.now =
    c.if-b-lt-HEADER_SIZE.false in
    c.refused-then-not-is_marked.ensures ∙ sym (unmarked _ long (sym c.is_marked.ensures ∙ c.if-not-is_marked.true))

pub returns-then-not-is_versioned : goal.returns-then-not-is_versioned
returns-then-not-is_versioned c =
    let long : HasHeader c.args.b.now =
    c.if-b-lt-HEADER_SIZE.false in
    let has-mark : is_marked c.args.b.now ≡ true =
    sym c.is_marked.ensures ∙ c.if-not-is_marked.false in
    c.refused-then-not-is_versioned.ensures ∙ sym (unversioned _ long has-mark (sym c.is_versioned.ensures ∙ c.if-not-is_versioned.true))

pub returns-then-not-is_headed : goal.returns-then-not-is_headed
returns-then-not-is_headed c =
    let long : HasHeader c.args.b.now =
    c.if-b-lt-HEADER_SIZE.false in
    let has-mark : is_marked c.args.b.now ≡ true =
    sym c.is_marked.ensures ∙ c.if-not-is_marked.false in
    let has-version : is_versioned c.args.b.now ≡ true =
    sym c.is_versioned.ensures ∙ c.if-not-is_versioned.false in
    c.refused-then-not-is_headed.ensures
    ∙ sym (unheaded _ long has-mark has-version (sym c.is_headed.ensures ∙ c.if-not-is_headed.true))

pub returns-then-b-size_of : goal.returns-then-b-size_of
returns-then-b-size_of c =
    let long : HasHeader c.args.b.now =
    c.if-b-lt-HEADER_SIZE.false in
    let has-mark : is_marked c.args.b.now ≡ true =
    sym c.is_marked.ensures ∙ c.if-not-is_marked.false in
    let has-version : is_versioned c.args.b.now ≡ true =
    sym c.is_versioned.ensures ∙ c.if-not-is_versioned.false in
    let has-header : is_headed c.args.b.now ≡ true =
    sym c.is_headed.ensures ∙ c.if-not-is_headed.false in
    let size_is : c.size_of.result ≡ size_of (count_at c.args.b.now) =
    c.size_of.ensures ∙ ap size_of c.count_at-n.ensures.0 in
    c.refused-then-b-size_of.ensures
    ∙ sym (uncounted _ long has-mark has-version has-header (λ e. c.if-b-size_of.true (e ∙ sym size_is)))

pub returns : goal.returns
unfolding header_minutes
returns c =
    let size_is : c.size_of.result ≡ size_of (count_at c.args.b.now) =
    c.size_of.ensures ∙ ap size_of c.count_at-n.ensures.0 in
    let long : HasHeader c.args.b.now =
    c.if-b-lt-HEADER_SIZE.false in
    let has-mark : is_marked c.args.b.now ≡ true =
    sym c.is_marked.ensures ∙ c.if-not-is_marked.false in
    let has-version : is_versioned c.args.b.now ≡ true =
    sym c.is_versioned.ensures ∙ c.if-not-is_versioned.false in
    let has-header : is_headed c.args.b.now ≡ true =
    sym c.is_headed.ensures ∙ c.if-not-is_headed.false in
    let count = c.if-b-size_of.false ∙ size_is in
    c.check_records.ensures
    ∙ rw (c.minutes_of.ensures, c.count_at-n.ensures.0, c.header_at-h.ensures)
    (sym (counted _ long has-mark has-version has-header count))
