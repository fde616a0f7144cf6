mod PipeLemmas
