-- What a C function leaves: the number that it returns, its cells, and its output. Assumes nothing.
use Rattle.std.specs.Prelude.{◌≡◌, List, ℕ, ℤ, length}
use Rattle.std.proofs.lemmas.List.Edits.{sets}
use Rattle.book.specs.declared.Header.{Header}
use Rattle.book.specs.declared.Verdict.{Verdict}
use Rattle.book.specs.Book.{place_of}
use Rattle.book.specs.Write.{BookOutcome}
use Rattle.join.specs.Joining.{JoinOutcome}
use Rattle.tabs.specs.Outcome.{TabsOutcome, JoinTabsOutcome}
use Rattle.lookup.specs.declared.Place.{Place}
use Rattle.lookup.specs.declared.Place.TheVariants.{Nowhere, InFirst, InSecond}
use Rattle.score.specs.declared.answer.Score.{Score}
use Rattle.ramp.specs.declared.Hour.{Hour}
use Rattle.share_bytes.specs.Bytes.{parts_bytes, parts_written, sharing_bytes}
use Rattle.pay.specs.declared.Member.{Member}
use Rattle.call.specs.declared.Call.{Call}

-- what a caller gives as plain numbers: a header, a register line, a call
abbrev pub given_header : ℕ → ℕ → ℕ → Header
given_header area year month = record { area = area; year = year; month = month }

abbrev pub given_member : ℕ → ℕ → ℕ → Member
given_member participant kind rated = record { number = participant; kind = kind; rated = record { 0 = rated } }

abbrev pub given_call : ℕ → ℕ → ℕ → ℕ → ℕ → ℕ → ℕ → ℤ → ℕ → ℕ → Call
given_call participant service state number revision start minutes a b c =
    record {
      participant = participant;
      service = service;
      state = state;
      number = number;
      revision = revision;
      start = start;
      length = minutes;
      a = a;
      b = b;
      c = c;
    }

-- nwb_check: the number, and its place in the cell
pub record ToldCheck (v : Verdict) (number place : ℕ) : Type 0 where
  pub number_is : number ≡ v.number
  pub place_is : place ≡ v.place

-- nwb_none, nwb_one: the number; place and length in the cells; the output
pub record ToldWrite (o : BookOutcome) (number place length : ℕ) (out : List ℕ) : Type 0 where
  pub number_is : number ≡ o.number
  pub place_is : place ≡ o.place
  pub length_is : length ≡ o.size
  pub out_is : out ≡ o.out

-- nwb_join: the same of a join, and its turns in a cell
pub record ToldJoin (o : JoinOutcome) (number place length turns : ℕ) (out : List ℕ) : Type 0 where
  pub number_is : number ≡ o.number
  pub place_is : place ≡ o.place
  pub length_is : length ≡ o.size
  pub turns_is : turns ≡ o.turns
  pub out_is : out ≡ o.out

-- nwb_tabs: the number; its place in the cell; the page
pub record ToldTabs (o : TabsOutcome) (number place : ℕ) (page : List ℕ) : Type 0 where
  pub number_is : number ≡ o.number
  pub place_is : place ≡ o.place
  pub page_is : page ≡ o.page

-- nwb_join_tabs: the same as of nwb_join, and the joined book's page
pub record ToldJoinTabs (o : JoinTabsOutcome) (number place length turns : ℕ) (out page : List ℕ) : Type 0 where
  pub number_is : number ≡ o.number
  pub place_is : place ≡ o.place
  pub length_is : length ≡ o.size
  pub turns_is : turns ≡ o.turns
  pub out_is : out ≡ o.out
  pub page_is : page ≡ o.page

-- 0 none, 1 first, 2 second
abbrev pub book_number : Place → ℕ
book_number Nowhere = 0
book_number (InFirst i) = 1
book_number (InSecond j) = 2

-- the offset of the 32 bytes in their book, else 0
abbrev pub offset_in : Place → ℕ
offset_in Nowhere = 0
offset_in (InFirst i) = place_of i
offset_in (InSecond j) = place_of j

-- nwb_find: the book's number, and the offset in the cell
pub record ToldFind (p : Place) (book offset : ℕ) : Type 0 where
  pub book_is : book ≡ book_number p
  pub offset_is : offset ≡ offset_in p

-- nwb_score: the number; place, grains and fen in the cells
pub record ToldScore (s : Score) (number place grains fen : ℕ) : Type 0 where
  pub number_is : number ≡ s.number
  pub place_is : place ≡ s.place
  pub grains_is : grains ≡ s.grains.0
  pub fen_is : fen ≡ s.fen.0

-- nwb_ramp: the number; place and grains in the cells
pub record ToldRamp (h : Hour) (number place grains : ℕ) : Type 0 where
  pub number_is : number ≡ h.number
  pub place_is : place ≡ h.place
  pub grains_is : grains ≡ h.grains.0

-- nwb_share: the number; place and gap in the cells; what each line gets and the user's amount stand at the output's front, and the bytes behind
-- stay
pub record ToldShare (part : ℕ) (input before after : List ℕ) (number place : ℕ) (gap : ℤ) : Type 0 where
  pub number_is : number ≡ (sharing_bytes part input (length before)).number
  pub place_is : place ≡ (sharing_bytes part input (length before)).place
  pub gap_is : gap ≡ (sharing_bytes part input (length before)).gap
  pub out_is : after ≡ sets before 0 (parts_bytes (parts_written (sharing_bytes part input (length before))))
