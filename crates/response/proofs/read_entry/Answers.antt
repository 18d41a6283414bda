-- `response::read_entry` meets its contract: a field that differs is a fault, and where none does the metric decides.
-- Assumes nothing.
use native.Mathlib.Omega.{arith}
use Rattle.std.proofs.lemmas.Bool.Decides.{nat_tests}
use Rattle.response.specs.Reading.{metric_fault, entry_metric}
use Rattle.records.specs.Numbers.{Bytes}
use Rattle.response.proofs.Fields.{low32, entry_words}
use Rattle.response.proofs.read_entry.Goals as goal

pub returns-then-double-from : goal.returns-then-double-from
returns-then-double-from c =
    let b = c.args.part.now in
    let bytes : Bytes b = λ i. omega (arith, c.type_inv.part i) in
    rw (entry_words c.args.a b bytes) (grind (arith, nat_tests, low32 b bytes 4, low32 b bytes 12))

pub returns-then-m-eq0 : goal.returns-then-m-eq0
unfolding metric_fault
returns-then-m-eq0 c =
    let b = c.args.part.now in
    let bytes : Bytes b = λ i. omega (arith, c.type_inv.part i) in
    rw (entry_words c.args.a b bytes) (grind (arith, nat_tests))

pub returns : goal.returns
unfolding metric_fault entry_metric
returns c =
    let b = c.args.part.now in
    let bytes : Bytes b = λ i. omega (arith, c.type_inv.part i) in
    rw (entry_words c.args.a b bytes) (grind (arith, nat_tests, low32 b bytes 4, low32 b bytes 12, c.ranges.a.fits))
