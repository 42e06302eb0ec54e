use Rattle.psv_stream.proofs.body.take_body.Given as goal

abbrev pub ghost-take_lines : goal.ghost-take_lines
ghost-take_lines a = λ b. 0
