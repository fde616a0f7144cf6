use Rattle.request_build.proofs.LawLemmas.{Lower, calls-sound, parts-sound}
use Rattle.request_build.proofs.laws.built_requests_are_sound.Goals as goal

pub returns : goal.returns
returns c =
    let lower : Lower = record {
      plain = c.written_contents_have_whole_numbers.ensures.plain;
      pipe = c.written_contents_have_whole_numbers.ensures.pipe;
      direct = c.written_contents_have_whole_numbers.ensures.direct;
      connect = c.written_contents_have_whole_numbers.ensures.connect;
      produce = c.written_contents_have_whole_numbers.ensures.produce;
      consume = c.written_contents_have_whole_numbers.ensures.consume;
      produced = c.what_is_read_fits.ensures.produced;
      ssrcs = c.each_codec_is_mapped.ensures.ssrcs;
      received = c.what_is_received_is_within_the_capabilities.ensures.ssrcs;
      piped = c.pipe_draws_ssrcs_in_a_row.ensures.row;
    } in
    record { calls = calls-sound lower; parts = parts-sound lower }
