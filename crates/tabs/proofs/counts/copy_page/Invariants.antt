use Rattle.tabs.proofs.Retabbing.{Copying}
use Rattle.tabs.proofs.counts.copy_page.Given as goal

abbrev pub invariant-loop-word : goal.invariant-loop-word
invariant-loop-word l = Copying l.given l.initial.page l.word l.page
