use Rattle.std.proofs.lemmas.Grind.{common_steps}
use Rattle.std.proofs.Common.{◌∙◌, ◌+◌, ◌*◌, ◌-◌, arith, length, sym, ap}
use Rattle.tz_elf.specs.Placement.{placed_in}
use Rattle.tz_elf.specs.ElfImage.{headers_from, loads_from}
use Rattle.tz_elf.proofs.Headers.{elf_segments-start, loads_from-first, loads_from-none}
use Rattle.tz_elf.proofs.RefusalLemmas.{IsImageRefusal-along}
use Rattle.tz_elf.proofs.elf.read_elf.Goals as goal

pub loop-index-init : goal.loop-index-init
loop-index-init c =
    let numbers = c.new.ensures.items in
    let segments = c.new-2.ensures.segments in
    record {
      segments = elf_segments-start (placed_in c.args.regions.now c.args.usable.now) c.args.file.now c.word_field-table.result c.half_field-index-end.result c.new.result.items c.new-2.result.segments.items
          c.in_default.ensures.ok c.word_field-table.ensures c.half_field-index-end.ensures numbers segments;
      kept = c.new-2.ensures.kept;
      paired = ap length numbers ∙ sym (ap length segments);
      count = rw segments (omega arith);
    }

pub returns-in-Err-add_load-clause-err : goal.returns-in-Err-add_load-clause-err
returns-in-Err-add_load-clause-err c =
    let test = placed_in c.args.regions.now c.args.usable.now in
    let turn = loads_from-first test c.args.file.now c.word_field-table.result c.half_field-index-end.result c.loop-index.index c.loop-index.loads.numbers.items c.loop-index.loads.placed.segments.items
    c.read_program_header-header.result c.loop-index-test.true c.read_program_header-header.ensures in
    IsImageRefusal-along c.in-Err-add_load.error _ _ (c.loop-index.invariant.segments ∙ turn)
    (c.in-Err-add_load.ensures.err (λ numbers before. loads_from test c.args.file.now (c.loop-index.index + 1) numbers before
    (headers_from c.args.file.now (c.word_field-table.result + 32 * (c.loop-index.index + 1)) (c.half_field-index-end.result - (c.loop-index.index + 1)))))

pub loop-index-preserved : goal.loop-index-preserved
loop-index-preserved c =
    let test = placed_in c.args.regions.now c.args.usable.now in
    let turn = loads_from-first test c.args.file.now c.word_field-table.result c.half_field-index-end.result c.loop-index.index c.loop-index.loads.numbers.items c.loop-index.loads.placed.segments.items
    c.read_program_header-header.result c.loop-index-test.true c.read_program_header-header.ensures in
    let grows = c.in_default-add_load.ensures.grows in
    record {
      segments = c.loop-index.invariant.segments ∙ turn
          ∙ c.in_default-add_load.ensures.ok (λ numbers before. loads_from test c.args.file.now (c.loop-index.index + 1) numbers before
          (headers_from c.args.file.now (c.word_field-table.result + 32 * (c.loop-index.index + 1)) (c.half_field-index-end.result - (c.loop-index.index + 1))));
      kept = c.in_default-add_load.ensures.kept;
      paired = c.in_default-add_load.ensures.paired;
      count = omega arith;
    }

pub returns-clause-ok : goal.returns-clause-ok
returns-clause-ok c =
    c.loop-index.invariant.segments ∙ loads_from-none (placed_in c.args.regions.now c.args.usable.now) c.args.file.now _ c.half_field-index-end.result c.loop-index.index _ _ c.loop-index-test.false

-- The first call that the prover tries finds nothing here, after long: the one that does is named.
pub read_program_header-header-requires : goal.read_program_header-header-requires
read_program_header-header-requires c = grind (arith, common_steps)
