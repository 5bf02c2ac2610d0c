-- What inner contracts speak of, and no sentence of the paper: joining as the code goes about it. Assumes nothing.
use Rattle.std.specs.Prelude.{cond, List, [], ◌∷◌, ltb}
use Rattle.call.specs.declared.Call.{Call}
use Rattle.call.specs.Key.{call_key}
use Rattle.rule.specs.Standing.{standing}

-- x and what follows it against the second list; `rest` merges what follows x
unfoldable pub merge_from : Call → List Call → (List Call → List Call) → List Call → List Call
merge_from x xs rest [] = x ∷ xs
merge_from x xs rest (y ∷ ys) =
    cond (ltb (call_key x) (call_key y)) (x ∷ rest (y ∷ ys))
    (cond (ltb (call_key y) (call_key x)) (y ∷ merge_from x xs rest ys)
    (standing x y ∷ rest ys))

-- two lists whose keys rise, merged: the lower key first
unfoldable pub merge : List Call → List Call → List Call
merge [] ys = ys
merge (x ∷ xs) ys = merge_from x xs (merge xs) ys
