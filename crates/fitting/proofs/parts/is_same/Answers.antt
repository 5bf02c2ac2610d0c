use mir.Syntax.{w64}
use Rattle.fitting.proofs.Findings.{same_bits}
use Rattle.fitting.proofs.parts.is_same.Goals as goal

pub returns : goal.returns
returns c =
    let a = c.args in
    same_bits w64 a.a.0 a.b.0 (record { sfits = c.struct_told-1.given.0.1 }) (record { sfits = c.struct_told-2-1.given.0.1 })
