-- The rule over a whole list of books, and trees of joins. Assumes nothing.
use Rattle.std.specs.Prelude.{Bool, true, cond, ◌&&◌, List, [], ◌∷◌, ◌++◌, ℕ, max, eqb, pos}
use Rattle.std.proofs.Math.Option.{Option, none, some}
use Rattle.call.specs.declared.Call.{Call}
use Rattle.call.specs.Revising.{withdrawn, call_contested}
use Rattle.rule.specs.Standing.{same_call, is_withdrawn}
use Rattle.rule.specs.Keys.{record_of, also, different_keys, records_at}
use Rattle.rule.specs.Joined.{join_calls}

-- the records that the books have for a key
unfoldable pub records_of : ℕ → List (List Call) → List Call
records_of k [] = []
records_of k (b ∷ bs) = also (record_of k b) (records_of k bs)

unfoldable pub those : (Call → Bool) → List Call → List Call
those p [] = []
those p (c ∷ cs) = cond (p c) (c ∷ those p cs) (those p cs)

unfoldable pub all : (Call → Bool) → List Call → Bool
all p [] = true
all p (c ∷ cs) = p c && all p cs

-- the highest revision
unfoldable pub highest : List Call → ℕ
highest [] = 0
highest (c ∷ cs) = max c.revision (highest cs)

-- the call withdrawn, at a revision
unfoldable pub withdrawn_at : ℕ → Call → Call
withdrawn_at revision c =
    record {
      participant = c.participant;
      service = 0;
      state = withdrawn;
      number = c.number;
      revision = revision;
      start = 0;
      length = 0;
      a = pos 0;
      b = 0;
      c = 0;
    }

-- Of the withdrawn records and of those at the highest revision: where any is withdrawn, withdrawn at the highest withdrawn revision;
-- else at the highest revision, the record there if all at that revision are equal, otherwise contested
unfoldable pub ruling : List Call → List Call → Option Call
ruling (w ∷ ws) ts = some (withdrawn_at (highest (w ∷ ws)) w)
ruling [] [] = none
ruling [] (t ∷ ts) = some (cond (all (same_call t) ts) t (call_contested t))

unfoldable pub rule_for : List Call → Option Call
rule_for cs = ruling (those is_withdrawn cs) (those (λ c. eqb c.revision (highest cs)) cs)

-- the record of a key, over a whole list of books
unfoldable pub rule_over : List (List Call) → ℕ → Option Call
rule_over bs k = rule_for (records_of k bs)

-- the rule's record at each of the different keys
unfoldable pub rule_calls : List (List Call) → List Call
rule_calls bs = records_at (rule_over bs) (different_keys bs)

-- any order, grouping and repetition: a lone book, or the join of what two trees give
pub data Tree : Type 0 where
  leaf : List Call → Tree
  node : Tree → Tree → Tree

unfoldable pub leaves : Tree → List (List Call)
leaves (leaf b) = b ∷ []
leaves (node l r) = leaves l ++ leaves r

unfoldable pub tree_joined : Tree → List Call
tree_joined (leaf b) = b
tree_joined (node l r) = join_calls (tree_joined l) (tree_joined r)
