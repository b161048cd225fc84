-- The modes of two wrap codes. Definitions only.
use Rattle.std.specs.Prelude.{◌≡◌, Result, Ok}
use Rattle.rules.specs.declared.Sampler.{Sampler}
use Rattle.rules.specs.declared.Refusal.{Refusal}
use Rattle.rules.specs.Wrapping.{mode_of}
use Rattle.rules.specs.Refusals.{sampler_refusal}
use Rattle.rules.specs.Answers.{answer, refused}
use Rattle.places.specs.declared.wrap.Wrapping.{Wrapping}

-- the modes of codes that are known
unfoldable pub wrapping_of : Sampler → Wrapping
wrapping_of sampler = record { s = mode_of sampler.wrap_s; t = mode_of sampler.wrap_t }

abbrev pub sampler_decodes : Sampler → Result Wrapping Refusal → Type 0
sampler_decodes sampler wrapping = wrapping ≡ answer (sampler_refusal sampler) refused (Ok (wrapping_of sampler))
