use Rattle.std.proofs.Common.{◌≡◌, ◌%◌, Err, length, ap, refl, sym, ◌∙◌, eq-eqb, ne_eqb}
use Rattle.paper.specs.Numbers.{told, refusal}
use Rattle.paper.specs.declared.Reason.TheVariants.{Length as LENGTH}
use Rattle.paper.proofs.OneToOne.{same_named}
use Rattle.byte_checker.specs.Bytes.{bytes_verdict}
use Rattle.byte_checker.proofs.Verdicts.{verdict_odd, verdict_unlaid, verdict_named}
use Rattle.byte_checker.proofs.check_bytes.Goals as goal
use Rattle.byte_checker.proofs.check_bytes.Goals.{then-bytes-ne0-via-then-bytes-ne0, then-bytes-ne0-via-else-bytes-ne0+then-not-is_laid}

pub returns-then-bytes-ne0 : goal.returns-then-bytes-ne0
returns-then-bytes-ne0 c =
    let e = c.as_chunks.ensures in
    let verdict : bytes_verdict c.args.bytes.now ≡ Err (refusal LENGTH 0) =
    elim c.then-bytes-ne0.branch [
      | then-bytes-ne0-via-then-bytes-ne0 w ↦
          verdict_odd c.args.bytes.now _ _ e.front e.front_len refl (ne_eqb (length c.args.bytes.now % 4) 0 w.if-bytes-ne0.true)
      | then-bytes-ne0-via-else-bytes-ne0+then-not-is_laid w ↦
          verdict_unlaid c.args.bytes.now _ _ e.front e.front_len refl (eq-eqb (length c.args.bytes.now % 4) 0 w.if-bytes-ne0.false)
          (sym w.is_laid.ensures ∙ w.if-not-is_laid.true)
    ] in
    rw (c.at.ensures, verdict)

pub returns-in_default : goal.returns-in_default
returns-in_default c =
    let e = c.as_chunks.ensures in
    let verdict =
    verdict_named c.args.bytes.now _ _ e.front e.front_len refl (eq-eqb (length c.args.bytes.now % 4) 0 c.if-bytes-ne0.false)
    (sym c.is_laid.ensures ∙ c.if-not-is_laid.false) in
    rw (c.at-in_default.ensures, verdict, ← c.token_of.ensures, ← (same_named _ _ c.version_of.ensures), c.in_default.is)

pub returns : goal.returns
returns c =
    let e = c.as_chunks.ensures in
    let verdict =
    verdict_named c.args.bytes.now _ _ e.front e.front_len refl (eq-eqb (length c.args.bytes.now % 4) 0 c.if-bytes-ne0.false)
    (sym c.is_laid.ensures ∙ c.if-not-is_laid.false) in
    ap told (c.walk_bytes.ensures ∙ sym (verdict ∙ rw (← c.token_of.ensures, ← (same_named _ _ c.version_of.ensures), c.in-Some.is)))
