use Rattle.host_model.proofs.laws.built_fits.Goals as goal

pub returns : goal.returns
returns c = record { draws = c.built_requests_draw_few.ensures.calls; few = c.built_requests_keep_few.ensures.calls }
