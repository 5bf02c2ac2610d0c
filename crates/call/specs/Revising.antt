-- What a call becomes when it is revised, withdrawn or contested. Assumes nothing.
use Rattle.std.specs.Prelude.{ℕ, pos}
use Rattle.call.specs.declared.Call.{Call}
use Rattle.call.specs.declared.Content.{Content}

-- the states of a record
abbrev pub live : ℕ
live = 0

abbrev pub contested : ℕ
contested = 1

abbrev pub withdrawn : ℕ
withdrawn = 2

-- revised: the same key, a new revision and new content, live
abbrev pub call_revised : Call → ℕ → Content → Call
call_revised c revision content =
    record {
      participant = c.participant;
      service = content.service;
      state = live;
      number = c.number;
      revision = revision;
      start = content.start;
      length = content.length;
      a = content.a;
      b = content.b;
      c = content.c;
    }

-- the same key and revision in another state, with service, start, length, a, b and c all zero
abbrev pub call_struck : ℕ → Call → Call
call_struck state c =
    record {
      participant = c.participant;
      service = 0;
      state = state;
      number = c.number;
      revision = c.revision;
      start = 0;
      length = 0;
      a = pos 0;
      b = 0;
      c = 0;
    }

abbrev pub call_withdrawn : Call → Call
call_withdrawn c = call_struck withdrawn c

abbrev pub call_contested : Call → Call
call_contested c = call_struck contested c
