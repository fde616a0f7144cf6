-- The numbers that the statuses are.
use Rattle.std.specs.Prelude.{◌≡◌, refl}
use Rattle.run_top.specs.declared.status.TheConstants.Status.{DONE, NO_COMMAND, BAD_TEXT, READ_FAILED, WRITE_FAILED, TOO_LONG, OUT_OF_MEMORY}

pub done : DONE.0 ≡ 0
done = refl

pub no_command : NO_COMMAND.0 ≡ 2
no_command = refl

pub bad_text : BAD_TEXT.0 ≡ 3
bad_text = refl

pub read_failed : READ_FAILED.0 ≡ 4
read_failed = refl

pub write_failed : WRITE_FAILED.0 ≡ 5
write_failed = refl

pub too_long : TOO_LONG.0 ≡ 6
too_long = refl

pub out_of_memory : OUT_OF_MEMORY.0 ≡ 9
out_of_memory = refl
