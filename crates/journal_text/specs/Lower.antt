-- What script_text promises of lines and words, which the laws of a journal's text rest on.
use Rattle.script_text.specs.Laws.{CallsAreWritten, CallsReadBack, HeadsAreWritten, HeadsReadBack, TextsAreLines, WaitsAreWritten, WaitsReadBack, WordsAreWritten, WordsMakeLines, WordsReadBack}

pub record LineLaws : Type 0 where
  pub texts : TextsAreLines
  pub words : WordsMakeLines
  pub values : WordsReadBack
  pub values-read : WordsAreWritten
  pub heads : HeadsReadBack
  pub heads-read : HeadsAreWritten
  pub calls : CallsReadBack
  pub calls-read : CallsAreWritten
  pub waits : WaitsReadBack
  pub waits-read : WaitsAreWritten
