use Rattle.request_build.proofs.laws.built_requests_keep_what_they_draw.Goals as goal

pub returns-clause-calls : goal.returns-clause-calls
returns-clause-calls c = λ k op request is. ((c.built_requests_are_sound.ensures.calls k op).if_asked request is).ssrcs

pub returns-clause-parts : goal.returns-clause-parts
returns-clause-parts c = λ k part request is. ((c.built_requests_are_sound.ensures.parts k part).if_asked request is).ssrcs
