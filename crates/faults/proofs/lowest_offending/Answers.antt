use native.Mathlib.Omega.{arith}
use Rattle.faults.proofs.FaultAt.{lowest_bit, few_bits}
use Rattle.faults.proofs.lowest_offending.Goals as goal

pub returns : goal.returns
returns c =
    let g = c.args in
    record {
      is = lowest_bit g.zeros g.fields g.token (omega arith) (omega arith) (omega arith);
      few = few_bits g.zeros g.fields g.token (omega arith) (omega arith) (omega arith);
    }
