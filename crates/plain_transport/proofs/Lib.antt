mod CallLemmas
