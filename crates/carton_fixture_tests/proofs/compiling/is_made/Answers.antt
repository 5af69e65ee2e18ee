use Rattle.carton_fixture_tests.proofs.compiling.is_made.Goals as goal

pub write_fixture-requires : goal.write_fixture-requires
write_fixture-requires c = c.in-Made.ensures.compiled.good.rules
